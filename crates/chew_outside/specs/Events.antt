-- The events of a slot in memory as the definitions see them.
use Rattle.std.specs.Prelude.{ℕ, List, map, reverse, Option, Some, None}
use Rattle.std.specs.declared.vec.Vec.{Vec}
use Rattle.chew_spec_disk.specs.Memory as spec
use Rattle.chew_outside.specs.declared.mem_slot.Event.{Event}
use Rattle.chew_outside.specs.declared.mem_slot.Event.TheVariants.{Written, Synced}

abbrev pub event_of : Event → spec.Event
event_of (Written moment at bytes done) = spec.Written moment at bytes.items done
event_of (Synced moment) = spec.Synced moment

-- the newest first
abbrev pub history_of : List Event → List spec.Event
history_of events = reverse (map event_of events)

-- what reads give, where it is kept apart from what the slot had at first
abbrev pub content : {A : Type 0} → Option (Vec ℕ A) → Vec ℕ A → List ℕ
content None first = first.items
content (Some now) first = now.items
