-- By computing the keys.
use Rattle.std.proofs.Common.{refl}
use Rattle.unicode_width.proofs.Computing.{unicode_width}
use Rattle.chew_spec_editor.proofs.Computing.{typing}
use Rattle.chew_spec_editor.proofs.laws.typing.known_second_run.Goals as goal

pub returns-clause-window : goal.returns-clause-window
unfolding typing unicode_width
returns-clause-window c = refl

pub returns-clause-first : goal.returns-clause-first
unfolding typing unicode_width
returns-clause-first c = refl

pub returns-clause-calls : goal.returns-clause-calls
unfolding typing unicode_width
returns-clause-calls c = refl

pub returns-clause-picked : goal.returns-clause-picked
unfolding typing unicode_width
returns-clause-picked c = refl
