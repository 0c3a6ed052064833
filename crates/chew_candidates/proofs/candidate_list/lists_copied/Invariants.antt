-- The items so far.
use Rattle.std.proofs.Common.{◌≡◌, take}
use Rattle.chew_candidates.proofs.candidate_list.lists_copied.Given as goal

abbrev pub invariant-loop-list : goal.invariant-loop-list
invariant-loop-list l = l.copied.items ≡ take l.list-index l.lists
