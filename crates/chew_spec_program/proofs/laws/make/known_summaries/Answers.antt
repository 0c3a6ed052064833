-- By computing the keys.
use Rattle.std.proofs.Common.{refl}
use Rattle.std.specs.Char.{encode_utf8}
use Rattle.unicode_width.proofs.Computing.{unicode_width}
use Rattle.chew_spec_editor.proofs.Computing.{typing}
use Rattle.chew_spec_program.proofs.laws.make.known_summaries.Goals as goal

pub returns-clause-none : goal.returns-clause-none
unfolding typing unicode_width encode_utf8
returns-clause-none c = refl

pub returns-clause-one : goal.returns-clause-one
unfolding typing unicode_width encode_utf8
returns-clause-one c = refl

pub returns-clause-two : goal.returns-clause-two
unfolding typing unicode_width encode_utf8
returns-clause-two c = refl

pub returns-clause-again : goal.returns-clause-again
unfolding typing unicode_width encode_utf8
returns-clause-again c = refl

pub returns-clause-uncommitted : goal.returns-clause-uncommitted
unfolding typing unicode_width encode_utf8
returns-clause-uncommitted c = refl
