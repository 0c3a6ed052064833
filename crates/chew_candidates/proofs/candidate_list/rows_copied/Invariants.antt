-- The items so far.
use Rattle.std.proofs.Common.{◌≡◌, take}
use Rattle.chew_candidates.proofs.candidate_list.rows_copied.Given as goal

abbrev pub invariant-loop-hit : goal.invariant-loop-hit
invariant-loop-hit l = l.copied.items ≡ take l.hit-index l.rows
