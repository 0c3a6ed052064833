-- What waits, as a snapshot tells it.
use Rattle.std.specs.Arc.{arc_value}
use Rattle.chew_spec_layers.specs.Layers.{Waiting}
use Rattle.chew_layers.specs.declared.snapshot.Snapshot.{Snapshot}

-- the marks that a snapshot has, and its number and life
abbrev pub waiting_of : Snapshot → Waiting
waiting_of snapshot = record { marks = arc_value snapshot.frozen; number = snapshot.upto; life = snapshot.life }
