use Rattle.chew_spec_editor.proofs.ChoicesShown.{choice-shown}
use Rattle.chew_spec_editor.proofs.laws.shown.choices_stay_shown.Goals as goal

pub returns : goal.returns
returns c = choice-shown
