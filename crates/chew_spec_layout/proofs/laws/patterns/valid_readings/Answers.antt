-- Each value computes.
use Rattle.std.proofs.Common.{refl}
use Rattle.chew_spec_layout.proofs.laws.patterns.valid_readings.Goals as goal

pub returns : goal.returns
returns c = record {
  initials = refl;
  medials = refl;
  finals = refl;
}
