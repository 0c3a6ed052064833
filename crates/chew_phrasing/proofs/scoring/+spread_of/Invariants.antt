-- Each call has one length less to go.
use Rattle.std.proofs.Common.{length}
use Rattle.chew_phrasing.proofs.scoring.+spread_of.Given as goal

abbrev pub decreases-spread_of : goal.decreases-spread_of
decreases-spread_of l = length l.lengths.now
