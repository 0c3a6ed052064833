use Rattle.std.proofs.Common.{refl, arith}
use Rattle.chew_spec_program.proofs.Writings.{writes-taken}
use Rattle.chew_spec_program.proofs.laws.writing.whole_texts.Goals as goal

pub returns : goal.returns
returns c = record {
  taken = writes-taken;
  calm = λ sink text calm writes. calm (writes.rose refl);
  nothing = λ sink writes. let cut = writes.cut refl in omega arith;
}
