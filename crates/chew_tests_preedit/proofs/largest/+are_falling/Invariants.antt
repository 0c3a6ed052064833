-- The lists that are left.
use Rattle.std.proofs.Common.{length}
use Rattle.chew_tests_preedit.proofs.largest.«+are_falling».Given as goal

abbrev pub decreases-are_falling : goal.decreases-are_falling
decreases-are_falling l = length l.lists.now
