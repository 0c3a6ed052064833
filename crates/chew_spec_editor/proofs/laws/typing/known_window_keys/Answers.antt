-- By computing the keys.
use Rattle.std.proofs.Common.{refl}
use Rattle.unicode_width.proofs.Computing.{unicode_width}
use Rattle.chew_spec_editor.proofs.Computing.{typing}
use Rattle.chew_spec_editor.proofs.laws.typing.known_window_keys.Goals as goal

pub returns-clause-up : goal.returns-clause-up
unfolding typing unicode_width
returns-clause-up c = refl

pub returns-clause-back : goal.returns-clause-back
unfolding typing unicode_width
returns-clause-back c = refl

pub returns-clause-forth : goal.returns-clause-forth
unfolding typing unicode_width
returns-clause-forth c = refl

pub returns-clause-second : goal.returns-clause-second
unfolding typing unicode_width
returns-clause-second c = refl

pub returns-clause-others : goal.returns-clause-others
unfolding typing unicode_width
returns-clause-others c = refl
