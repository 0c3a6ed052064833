-- The rounds that are left.
use Rattle.std.proofs.Common.{length}
use Rattle.chewing_cli.proofs.sending.+send_rounds.Given as goal

abbrev pub decreases-send_rounds : goal.decreases-send_rounds
decreases-send_rounds g l = length l.rounds.now
