-- Each call has a context less.
use Rattle.std.proofs.Common.{length}
use Rattle.chew_session.proofs.actors.+stopped_early.Given as goal

abbrev pub decreases-stopped_early : goal.decreases-stopped_early
decreases-stopped_early l = length l.actors.now
