-- By computing the keys.
use Rattle.std.proofs.Common.{refl}
use Rattle.unicode_width.proofs.Computing.{unicode_width}
use Rattle.chew_spec_editor.proofs.Computing.{typing}
use Rattle.chew_spec_editor.proofs.laws.typing.known_held.Goals as goal

pub returns-clause-enter : goal.returns-clause-enter
unfolding typing unicode_width
returns-clause-enter c = refl

pub returns-clause-symbol : goal.returns-clause-symbol
unfolding typing unicode_width
returns-clause-symbol c = refl

pub returns-clause-home : goal.returns-clause-home
unfolding typing unicode_width
returns-clause-home c = refl

pub returns-clause-escape : goal.returns-clause-escape
unfolding typing unicode_width
returns-clause-escape c = refl
