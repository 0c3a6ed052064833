-- By computing the keys.
use Rattle.std.proofs.Common.{refl}
use Rattle.unicode_width.proofs.Computing.{unicode_width}
use Rattle.chew_spec_editor.proofs.Computing.{typing}
use Rattle.chew_spec_editor.proofs.laws.known.known_added_and_forgotten.Goals as goal

pub returns-clause-lines : goal.returns-clause-lines
unfolding typing unicode_width
returns-clause-lines c = refl

pub returns-clause-calls : goal.returns-clause-calls
unfolding typing unicode_width
returns-clause-calls c = refl
