use Rattle.chew_spec_editor.proofs.Answered.{is_editor-alone}
use Rattle.chew_spec_editor.proofs.laws.kept.typing_keeps_an_editor.Goals as goal

pub returns : goal.returns
returns c = is_editor-alone
