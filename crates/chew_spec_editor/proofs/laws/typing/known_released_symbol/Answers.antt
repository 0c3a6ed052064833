-- By computing the keys.
use Rattle.std.proofs.Common.{refl}
use Rattle.unicode_width.proofs.Computing.{unicode_width}
use Rattle.chew_spec_editor.proofs.Computing.{typing}
use Rattle.chew_spec_editor.proofs.laws.typing.known_released_symbol.Goals as goal

pub returns-clause-line : goal.returns-clause-line
unfolding typing unicode_width
returns-clause-line c = refl

pub returns-clause-calls : goal.returns-clause-calls
unfolding typing unicode_width
returns-clause-calls c = refl

pub returns-clause-by_symbol : goal.returns-clause-by_symbol
unfolding typing unicode_width
returns-clause-by_symbol c = refl

pub returns-clause-broken : goal.returns-clause-broken
unfolding typing unicode_width
returns-clause-broken c = refl
