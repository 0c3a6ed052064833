-- The contexts that are left.
use Rattle.std.proofs.Common.{length}
use Rattle.chewing_cli.proofs.sending.+send_contexts.Given as goal

abbrev pub decreases-send_contexts : goal.decreases-send_contexts
decreases-send_contexts g l = length l.ends.now
