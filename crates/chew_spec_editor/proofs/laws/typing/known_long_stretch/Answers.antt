-- By computing the keys.
use Rattle.std.proofs.Common.{refl}
use Rattle.unicode_width.proofs.Computing.{unicode_width}
use Rattle.chew_spec_editor.proofs.Computing.{typing}
use Rattle.chew_spec_editor.proofs.laws.typing.known_long_stretch.Goals as goal

pub returns-clause-long : goal.returns-clause-long
unfolding typing unicode_width
returns-clause-long c = refl

pub returns-clause-broken : goal.returns-clause-broken
unfolding typing unicode_width
returns-clause-broken c = refl
