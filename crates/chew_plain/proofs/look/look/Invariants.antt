-- The hits of the intervals so far.
use Rattle.std.proofs.Common.{◌≡◌, length, take, flat_map}
use Rattle.chew_spec_dictionary.specs.Look.{intervals}
use Rattle.chew_plain.specs.Look.{hits_at}
use Rattle.chew_plain.proofs.look.look.Given as goal

abbrev pub invariant-loop-at : goal.invariant-loop-at
invariant-loop-at l = l.hits.items ≡ flat_map (hits_at l.pairs l.run) (take l.at-index (intervals (length l.run)))
