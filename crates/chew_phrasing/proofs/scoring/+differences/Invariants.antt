-- Each call has one length less to go.
use Rattle.std.proofs.Common.{length}
use Rattle.chew_phrasing.proofs.scoring.+differences.Given as goal

abbrev pub decreases-differences : goal.decreases-differences
decreases-differences l = length l.others.now
