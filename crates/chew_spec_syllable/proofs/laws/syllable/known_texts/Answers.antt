-- Each value computes.
use Rattle.std.proofs.Common.{refl}
use lib.Utf8.{encode}
use Rattle.chew_spec_syllable.specs.SyllableText.{syllable_reading, text_of}
use Rattle.chew_spec_syllable.proofs.laws.syllable.known_texts.Goals as goal

pub returns : goal.returns
unfolding syllable_reading text_of encode
returns c = record {
  ce = refl;
  shi = refl;
  ya = refl;
  code_of_ce = refl;
  code_of_none = refl;
  text_of_ce = refl;
  text_of_shi = refl;
}
