use Rattle.chew_spec_program.proofs.Opened.{opened-stands}
use Rattle.chew_spec_program.proofs.laws.opened.opened_on_rows.Goals as goal

pub returns : goal.returns
returns c c' = record {
  rows = λ words settings system script inputs is. (opened-stands words settings system script _ inputs is).rows;
  settings = λ words settings system script inputs is. (opened-stands words settings system script _ inputs is).settings;
  start = λ words settings system script inputs is. (opened-stands words settings system script _ inputs is).pairs.each;
  few_pairs = λ words settings system script inputs is. (opened-stands words settings system script _ inputs is).pairs.few;
  begins = λ words settings system script inputs is. (opened-stands words settings system script _ inputs is).begins;
  keys = λ words settings system script inputs is. (opened-stands words settings system script _ inputs is).script.strokes;
  contexts = λ words settings system script inputs is. (opened-stands words settings system script _ inputs is).script.contexts;
  rounds = λ words settings system script inputs is. (opened-stands words settings system script _ inputs is).script.rounds;
}
