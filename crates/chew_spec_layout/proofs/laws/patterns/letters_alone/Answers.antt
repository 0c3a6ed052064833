-- Each value computes.
use Rattle.std.proofs.Common.{refl}
use lib.Utf8.{encode}
use Rattle.chew_spec_syllable.specs.SyllableText.{text_of}
use Rattle.chew_spec_layout.specs.Letters.{reading_of}
use Rattle.chew_spec_layout.proofs.laws.patterns.letters_alone.Goals as goal

pub returns : goal.returns
unfolding encode text_of reading_of
returns c = record {
  hsu = refl;
  et26 = refl;
}
