-- Each call has a round less.
use Rattle.std.proofs.Common.{length}
use Rattle.chew_session.proofs.actors.+is_refused.Given as goal

abbrev pub decreases-is_refused : goal.decreases-is_refused
decreases-is_refused l = length l.rounds.now
