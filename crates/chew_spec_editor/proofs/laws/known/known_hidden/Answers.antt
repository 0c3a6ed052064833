-- By computing the keys.
use Rattle.std.proofs.Common.{refl}
use Rattle.unicode_width.proofs.Computing.{unicode_width}
use Rattle.chew_spec_editor.proofs.Computing.{typing}
use Rattle.chew_spec_editor.proofs.laws.known.known_hidden.Goals as goal

pub returns-clause-hidden : goal.returns-clause-hidden
unfolding typing unicode_width
returns-clause-hidden c = refl

pub returns-clause-after : goal.returns-clause-after
unfolding typing unicode_width
returns-clause-after c = refl
