-- Each value computes.
use Rattle.std.proofs.Common.{refl}
use Rattle.chew_spec_syllable.proofs.laws.phrase.known_characters.Goals as goal

pub returns : goal.returns
returns c = record {
  below = refl;
  inverted_mark = refl;
  ogham_space = refl;
  general_spaces = refl;
  zero_width_space = refl;
  wide_space = refl;
  byte_order_mark = refl;
  greatest = refl;
}
