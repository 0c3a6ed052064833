-- Each value computes.
use Rattle.std.proofs.Common.{refl}
use lib.Utf8.{encode}
use Rattle.chew_spec_syllable.specs.SyllableText.{text_of}
use Rattle.chew_spec_syllable.proofs.laws.syllable.known_marks.Goals as goal

pub returns : goal.returns
unfolding text_of encode
returns c = record { initials = refl; medials = refl; finals = refl; tones = refl }
