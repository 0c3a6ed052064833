-- By computing the keys.
use Rattle.std.proofs.Common.{refl}
use Rattle.unicode_width.proofs.Computing.{unicode_width}
use Rattle.chew_spec_editor.proofs.Computing.{typing}
use Rattle.chew_spec_editor.proofs.laws.known.known_backspace.Goals as goal

pub returns-clause-cell : goal.returns-clause-cell
unfolding typing unicode_width
returns-clause-cell c = refl

pub returns-clause-held : goal.returns-clause-held
unfolding typing unicode_width
returns-clause-held c = refl
