-- By the table's test.
use Rattle.chew_spec_layout.proofs.Spelling.{is_spelled}
use Rattle.chew_spec_layout.proofs.laws.spelling.marks_are_a_syllable.Goals as goal

pub returns : goal.returns
returns c = is_spelled
