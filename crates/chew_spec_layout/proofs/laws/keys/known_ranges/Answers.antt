-- Each value computes.
use Rattle.std.proofs.Common.{refl}
use Rattle.chew_spec_layout.proofs.laws.keys.known_ranges.Goals as goal

pub returns : goal.returns
returns c = record {
  last_parts = refl;
  initial = refl;
  medial = refl;
  last_final = refl;
  tone = refl;
  three = refl;
  four = refl;
  no_letter = refl;
  other_layout = refl;
  six = refl;
  seven = refl;
  capital = refl;
}
