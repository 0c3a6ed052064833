-- By computing the keys.
use Rattle.std.proofs.Common.{refl}
use Rattle.unicode_width.proofs.Computing.{unicode_width}
use Rattle.chew_spec_editor.proofs.Computing.{typing}
use Rattle.chew_spec_editor.proofs.laws.learning.known_escape.Goals as goal

pub returns-clause-kept : goal.returns-clause-kept
unfolding typing unicode_width
returns-clause-kept c = refl

pub returns-clause-cleared : goal.returns-clause-cleared
unfolding typing unicode_width
returns-clause-cleared c = refl

pub returns-clause-calls : goal.returns-clause-calls
unfolding typing unicode_width
returns-clause-calls c = refl
