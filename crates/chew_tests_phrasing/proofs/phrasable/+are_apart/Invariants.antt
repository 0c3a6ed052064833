-- The choices become fewer.
use Rattle.std.proofs.Common.{length}
use Rattle.chew_tests_phrasing.proofs.phrasable.+are_apart.Given as goal

abbrev pub decreases-are_apart : goal.decreases-are_apart
decreases-are_apart l = length l.choices.now
