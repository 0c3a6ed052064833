-- By computing the keys.
use Rattle.std.proofs.Common.{refl}
use Rattle.unicode_width.proofs.Computing.{unicode_width}
use Rattle.chew_spec_editor.proofs.Computing.{typing}
use Rattle.chew_spec_editor.proofs.laws.learning.known_full_dictionary.Goals as goal

pub returns-clause-lines : goal.returns-clause-lines
unfolding typing unicode_width
returns-clause-lines c = refl

pub returns-clause-left : goal.returns-clause-left
unfolding typing unicode_width
returns-clause-left c = refl

pub returns-clause-hide : goal.returns-clause-hide
unfolding typing unicode_width
returns-clause-hide c = refl
