use Rattle.chew_spec_program.proofs.ReadOrder.{all-read}
use Rattle.chew_spec_program.proofs.laws.opened.all_is_read.Goals as goal

pub returns : goal.returns
returns c c' = record {
  system = λ words settings system script inputs opens. (all-read words settings system script _ inputs opens).system_read;
  script = λ words settings system script inputs opens. (all-read words settings system script _ inputs opens).script_read;
  slots = λ words settings system script inputs opens. (all-read words settings system script _ inputs opens).slots_read;
}
