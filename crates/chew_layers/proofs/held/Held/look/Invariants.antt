-- The hits of the intervals so far.
use Rattle.std.proofs.Common.{◌≡◌, length, take, flat_map}
use Rattle.chew_spec_dictionary.specs.Look.{intervals}
use Rattle.chew_plain.specs.Look.{hits_at}
use Rattle.chew_layers.specs.Contents.{rows_held}
use Rattle.chew_layers.proofs.held.Held.look.Given as goal

abbrev pub invariant-loop-at : goal.invariant-loop-at
invariant-loop-at l = l.hits.items ≡ flat_map (hits_at (rows_held l.self) l.run) (take l.at-index (intervals (length l.run)))
