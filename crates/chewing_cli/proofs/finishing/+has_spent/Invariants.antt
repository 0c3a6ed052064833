-- Each call has a round less.
use Rattle.std.proofs.Common.{length}
use Rattle.chewing_cli.proofs.finishing.+has_spent.Given as goal

abbrev pub decreases-has_spent : goal.decreases-has_spent
decreases-has_spent l = length l.rounds.now
