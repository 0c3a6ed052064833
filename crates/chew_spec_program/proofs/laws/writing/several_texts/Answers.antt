use Rattle.chew_spec_program.proofs.Writings.{writes-ended, writes-joined}
use Rattle.chew_spec_program.proofs.laws.writing.several_texts.Goals as goal

pub returns : goal.returns
returns c = record { joined = writes-joined; ended = writes-ended }
