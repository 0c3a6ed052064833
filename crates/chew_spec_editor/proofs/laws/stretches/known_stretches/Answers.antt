-- By computing the keys.
use Rattle.std.proofs.Common.{refl}
use Rattle.unicode_width.proofs.Computing.{unicode_width}
use Rattle.chew_spec_editor.proofs.Computing.{typing}
use Rattle.chew_spec_editor.proofs.laws.stretches.known_stretches.Goals as goal

pub returns-clause-together : goal.returns-clause-together
unfolding typing unicode_width
returns-clause-together c = refl

pub returns-clause-parted : goal.returns-clause-parted
unfolding typing unicode_width
returns-clause-parted c = refl

pub returns-clause-away : goal.returns-clause-away
unfolding typing unicode_width
returns-clause-away c = refl
