-- Each call has one length less to go.
use Rattle.std.proofs.Common.{length}
use Rattle.chew_phrasing.proofs.scoring.+weights.Given as goal

abbrev pub decreases-weights : goal.decreases-weights
decreases-weights l = length l.lengths.now
