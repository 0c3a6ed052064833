-- Each call has one reply less to go.
use Rattle.std.proofs.Common.{length}
use Rattle.chew_editor.proofs.noting.+has_full.Given as goal

abbrev pub decreases-has_full : goal.decreases-has_full
decreases-has_full l = length l.replies.now
