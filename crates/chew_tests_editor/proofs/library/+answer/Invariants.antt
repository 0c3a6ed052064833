-- The calls that are left.
use Rattle.std.proofs.Common.{length}
use Rattle.chew_tests_editor.proofs.library.«+answer».Given as goal

abbrev pub decreases-answer : goal.decreases-answer
decreases-answer l = length l.calls.now
