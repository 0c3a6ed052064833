-- Each call has one place less to go.
use Rattle.std.proofs.Common.{length}
use Rattle.chew_phrasing.proofs.first_place.+known.Given as goal

abbrev pub decreases-known : goal.decreases-known
decreases-known l = length l.firsts.now
