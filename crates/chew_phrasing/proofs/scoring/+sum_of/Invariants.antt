-- Each call has one length less to go.
use Rattle.std.proofs.Common.{length}
use Rattle.chew_phrasing.proofs.scoring.+sum_of.Given as goal

abbrev pub decreases-sum_of : goal.decreases-sum_of
decreases-sum_of l = length l.lengths.now
