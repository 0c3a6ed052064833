-- The rows so far, which are in order, were put in.
use Rattle.std.proofs.Common.{◌≡◌, take}
use Rattle.chew_plain.proofs.pairs.Pairs.of.Given as goal

abbrev pub invariant-loop-row : goal.invariant-loop-row
invariant-loop-row l = l.pairs ≡ take l.row-index l.row-items
