-- By computing the keys.
use Rattle.std.proofs.Common.{refl}
use Rattle.unicode_width.proofs.Computing.{unicode_width}
use Rattle.chew_spec_editor.proofs.Computing.{typing}
use Rattle.chew_spec_editor.proofs.laws.typing.known_lasting_choice.Goals as goal

pub returns-clause-window : goal.returns-clause-window
unfolding typing unicode_width
returns-clause-window c = refl

pub returns-clause-after : goal.returns-clause-after
unfolding typing unicode_width
returns-clause-after c = refl
