-- Each value computes.
use Rattle.std.proofs.Common.{refl}
use lib.Utf8.{encode}
use Rattle.chew_spec_syllable.specs.SyllableText.{text_of}
use Rattle.chew_spec_layout.specs.Letters.{reading_of}
use Rattle.chew_spec_layout.proofs.laws.patterns.letters_of_two_initials.Goals as goal

pub returns : goal.returns
unfolding encode text_of reading_of
returns c = record {
  hsu_j = refl;
  hsu_v = refl;
  hsu_c = refl;
  et26_g = refl;
  et26_v = refl;
  et26_c = refl;
}
