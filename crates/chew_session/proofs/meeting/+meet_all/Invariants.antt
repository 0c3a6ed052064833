-- Each call has a pass less to meet.
use Rattle.std.proofs.Common.{length}
use Rattle.chew_session.proofs.meeting.+meet_all.Given as goal

abbrev pub decreases-meet_all : goal.decreases-meet_all
decreases-meet_all l = length l.passes.items
