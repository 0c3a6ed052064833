-- By computing the keys.
use Rattle.std.proofs.Common.{refl}
use Rattle.unicode_width.proofs.Computing.{unicode_width}
use Rattle.chew_spec_editor.proofs.Computing.{typing}
use Rattle.chew_spec_editor.proofs.laws.known.known_refused_key.Goals as goal

pub returns-clause-empty : goal.returns-clause-empty
unfolding typing unicode_width
returns-clause-empty c = refl

pub returns-clause-behind : goal.returns-clause-behind
unfolding typing unicode_width
returns-clause-behind c = refl
