-- By computing the keys.
use Rattle.std.proofs.Common.{refl}
use Rattle.unicode_width.proofs.Computing.{unicode_width}
use Rattle.chew_spec_editor.proofs.Computing.{typing}
use Rattle.chew_spec_editor.proofs.laws.learning.known_without_learning.Goals as goal

pub returns : goal.returns
unfolding typing unicode_width
returns c = refl
