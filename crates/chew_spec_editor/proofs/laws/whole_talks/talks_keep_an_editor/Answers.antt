use Rattle.chew_spec_editor.proofs.WholeTalks.{talk-editor, talk-singles}
use Rattle.chew_spec_editor.proofs.laws.whole_talks.talks_keep_an_editor.Goals as goal

pub returns : goal.returns
returns c = record { editor = talk-editor; singles = talk-singles }
