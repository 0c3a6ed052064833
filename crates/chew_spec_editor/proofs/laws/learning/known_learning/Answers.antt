-- By computing the keys.
use Rattle.std.proofs.Common.{refl}
use Rattle.unicode_width.proofs.Computing.{unicode_width}
use Rattle.chew_spec_editor.proofs.Computing.{typing}
use Rattle.chew_spec_editor.proofs.laws.learning.known_learning.Goals as goal

pub returns-clause-calls : goal.returns-clause-calls
unfolding typing unicode_width
returns-clause-calls c = refl

pub returns-clause-twice : goal.returns-clause-twice
unfolding typing unicode_width
returns-clause-twice c = refl
