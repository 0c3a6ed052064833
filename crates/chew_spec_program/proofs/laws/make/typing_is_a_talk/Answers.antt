-- By following the keys.
use Rattle.chew_spec_program.proofs.MadeTalk.{typed_each, typed_point, typed_talk}
use Rattle.chew_spec_program.proofs.laws.make.typing_is_a_talk.Goals as goal

pub returns : goal.returns
returns c = record { talk = typed_talk; point = typed_point; each = typed_each }
