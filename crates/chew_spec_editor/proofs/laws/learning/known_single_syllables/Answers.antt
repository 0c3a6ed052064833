-- By computing the keys.
use Rattle.std.proofs.Common.{refl}
use Rattle.unicode_width.proofs.Computing.{unicode_width}
use Rattle.chew_spec_editor.proofs.Computing.{typing}
use Rattle.chew_spec_editor.proofs.laws.learning.known_single_syllables.Goals as goal

pub returns-clause-joined : goal.returns-clause-joined
unfolding typing unicode_width
returns-clause-joined c = refl

pub returns-clause-broken : goal.returns-clause-broken
unfolding typing unicode_width
returns-clause-broken c = refl

pub returns-clause-parted : goal.returns-clause-parted
unfolding typing unicode_width
returns-clause-parted c = refl
