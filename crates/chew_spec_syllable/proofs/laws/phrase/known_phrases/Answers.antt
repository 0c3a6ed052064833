-- Each value computes.
use Rattle.std.proofs.Common.{refl}
use lib.Utf8.{encode}
use Rattle.std.specs.Str.{chars, is_utf8}
use Rattle.chew_spec_syllable.specs.Phrase.{is_phrase, phrase_end}
use Rattle.chew_spec_syllable.proofs.laws.phrase.known_phrases.Goals as goal

pub returns : goal.returns
unfolding is_phrase phrase_end is_utf8 chars encode
returns c = record {
  one = refl;
  eleven = refl;
  twelve = refl;
  twelfth = refl;
  empty = refl;
  letter = refl;
  wide_space = refl;
  cut = refl;
}
