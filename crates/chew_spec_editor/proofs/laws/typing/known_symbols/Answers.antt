-- By computing the keys.
use Rattle.std.proofs.Common.{refl}
use Rattle.unicode_width.proofs.Computing.{unicode_width}
use Rattle.chew_spec_editor.proofs.Computing.{typing}
use Rattle.chew_spec_editor.proofs.laws.typing.known_symbols.Goals as goal

pub returns-clause-space : goal.returns-clause-space
unfolding typing unicode_width
returns-clause-space c = refl

pub returns-clause-down : goal.returns-clause-down
unfolding typing unicode_width
returns-clause-down c = refl

pub returns-clause-tab : goal.returns-clause-tab
unfolding typing unicode_width
returns-clause-tab c = refl

pub returns-clause-add : goal.returns-clause-add
unfolding typing unicode_width
returns-clause-add c = refl
