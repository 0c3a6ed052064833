-- By computing the keys.
use Rattle.std.proofs.Common.{refl}
use Rattle.unicode_width.proofs.Computing.{unicode_width}
use Rattle.chew_spec_editor.proofs.Computing.{typing}
use Rattle.chew_spec_editor.proofs.laws.typing.known_empty_buffer.Goals as goal

pub returns-clause-home : goal.returns-clause-home
unfolding typing unicode_width
returns-clause-home c = refl

pub returns-clause-end : goal.returns-clause-end
unfolding typing unicode_width
returns-clause-end c = refl

pub returns-clause-bells : goal.returns-clause-bells
unfolding typing unicode_width
returns-clause-bells c = refl

pub returns-clause-window_keys : goal.returns-clause-window_keys
unfolding typing unicode_width
returns-clause-window_keys c = refl
