-- Each value computes.
use Rattle.std.proofs.Common.{refl}
use lib.Utf8.{encode}
use Rattle.chew_spec_syllable.specs.SyllableText.{text_of}
use Rattle.chew_spec_layout.specs.Letters.{fed_letters, reading_of}
use Rattle.chew_spec_layout.proofs.laws.letters.hsu_keyboard.Goals as goal

pub returns : goal.returns
unfolding encode text_of fed_letters reading_of
returns c = record {
  upper_initials = refl;
  home_initials = refl;
  lower_initials = refl;
  before_i = refl;
  before_yu = refl;
  medials = refl;
  upper_finals = refl;
  home_finals = refl;
  lower_finals = refl;
  alone = refl;
  tones = refl;
}
