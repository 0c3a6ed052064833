-- Each value computes.
use Rattle.std.proofs.Common.{refl}
use lib.Utf8.{encode}
use Rattle.std.specs.Str.{chars, is_utf8}
use Rattle.chew_spec_syllable.specs.Phrase.{is_phrase}
use Rattle.chew_spec_syllable.proofs.laws.row.known_pairs.Goals as goal

pub returns : goal.returns
unfolding is_phrase is_utf8 chars encode
returns c = record { one = refl; two = refl; fewer = refl; more = refl; none = refl; no_code = refl; no_phrase = refl }
