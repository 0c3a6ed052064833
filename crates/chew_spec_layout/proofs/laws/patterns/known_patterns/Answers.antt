-- Each value computes.
use Rattle.std.proofs.Common.{refl}
use Rattle.chew_spec_layout.proofs.laws.patterns.known_patterns.Goals as goal

pub returns : goal.returns
returns c = record {
  none = refl;
  one = refl;
  two = refl;
  three = refl;
  four = refl;
}
