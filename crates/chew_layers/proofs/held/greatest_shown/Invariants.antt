-- The greatest of the hits so far.
use Rattle.std.proofs.Common.{◌≡◌, ◌≤◌, take}
use Rattle.chew_layers.specs.GreatestFrequency.{greatest_of_shown}
use Rattle.chew_layers.proofs.held.greatest_shown.Given as goal

abbrev pub invariant-loop-hit : goal.invariant-loop-hit
invariant-loop-hit l = (l.greatest ≡ greatest_of_shown (take l.hit-index l.hits)) × (l.greatest ≤ 99_999_999)
