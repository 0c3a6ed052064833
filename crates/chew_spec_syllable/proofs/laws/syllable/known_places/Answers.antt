-- Each value computes.
use Rattle.std.proofs.Common.{refl}
use lib.Utf8.{encode}
use Rattle.chew_spec_syllable.specs.SyllableText.{syllable_reading}
use Rattle.chew_spec_syllable.proofs.laws.syllable.known_places.Goals as goal

pub returns : goal.returns
unfolding syllable_reading encode
returns c = record {
  empty = refl;
  tone_alone = refl;
  after_tone = refl;
  wrong_order = refl;
  twice = refl;
  first_tone_mark = refl;
  one = refl;
  not_utf8 = refl;
}
