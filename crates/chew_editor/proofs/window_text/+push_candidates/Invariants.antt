-- Each call has one key less.
use Rattle.std.proofs.Common.{length}
use Rattle.chew_editor.proofs.window_text.+push_candidates.Given as goal

abbrev pub decreases-push_candidates : goal.decreases-push_candidates
decreases-push_candidates l = length l.keys.now
