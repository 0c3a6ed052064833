-- The words that are left.
use Rattle.std.proofs.Common.{length}
use Rattle.chew_commands.proofs.command.«+run_from».Given as goal

abbrev pub decreases-run_from : goal.decreases-run_from
decreases-run_from l = length l.words.now
