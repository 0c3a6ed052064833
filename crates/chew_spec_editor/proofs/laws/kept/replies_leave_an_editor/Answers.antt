use Rattle.chew_spec_editor.proofs.Finished.{is_editor-finish}
use Rattle.chew_spec_editor.proofs.laws.kept.replies_leave_an_editor.Goals as goal

pub returns : goal.returns
returns c = is_editor-finish
