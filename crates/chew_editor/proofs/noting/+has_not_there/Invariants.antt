-- Each call has one reply less to go.
use Rattle.std.proofs.Common.{length}
use Rattle.chew_editor.proofs.noting.+has_not_there.Given as goal

abbrev pub decreases-has_not_there : goal.decreases-has_not_there
decreases-has_not_there l = length l.replies.now
