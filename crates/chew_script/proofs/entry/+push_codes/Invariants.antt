-- The rest of the syllables is shorter.
use Rattle.std.proofs.Common.{length}
use Rattle.chew_script.proofs.entry.+push_codes.Given as goal

abbrev pub decreases-push_codes : goal.decreases-push_codes
decreases-push_codes l = length l.syllables.now
