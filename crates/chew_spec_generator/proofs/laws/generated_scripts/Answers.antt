-- By reading it.
use Rattle.std.proofs.Common.{refl}
use Rattle.chew_spec_generator.specs.Generator.{generated_keys}
use Rattle.chew_spec_generator.proofs.Reading.{generated_lines, generated_named, generated_read}
use Rattle.chew_spec_generator.proofs.Steps.{draws_counted}
use Rattle.chew_spec_generator.proofs.laws.generated_scripts.Goals as goal

pub returns : goal.returns
unfolding generated_keys
returns c = record {
  read = generated_read;
  lines = generated_lines;
  steps = λ number. refl;
  count = draws_counted 4096;
  names = generated_named;
}
