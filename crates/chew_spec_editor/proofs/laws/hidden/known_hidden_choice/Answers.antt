-- By computing the keys.
use Rattle.std.proofs.Common.{refl}
use Rattle.unicode_width.proofs.Computing.{unicode_width}
use Rattle.chew_spec_editor.proofs.Computing.{typing}
use Rattle.chew_spec_editor.proofs.laws.hidden.known_hidden_choice.Goals as goal

pub returns-clause-stays : goal.returns-clause-stays
unfolding typing unicode_width
returns-clause-stays c = refl

pub returns-clause-back : goal.returns-clause-back
unfolding typing unicode_width
returns-clause-back c = refl

pub returns-clause-without : goal.returns-clause-without
unfolding typing unicode_width
returns-clause-without c = refl
