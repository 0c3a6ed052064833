-- The five texts are phrases of so many syllables, by computing the tests.
use Rattle.std.proofs.Common.{refl}
use Rattle.std.specs.Char.{encode_utf8}
use Rattle.std.specs.Str.{chars, is_utf8}
use Rattle.chew_spec_syllable.specs.Phrase.{is_phrase}
use Rattle.chew_spec_dictionary.specs.FiveRows.{five_rows}
use Rattle.chew_samples.proofs.five_rows.five.Goals as goal

pub given-requires-clause-pair : goal.given-requires-clause-pair
unfolding is_phrase is_utf8 chars encode_utf8
given-requires-clause-pair c = rw c.syllable-ce.ensures refl

pub given-requires-2-clause-pair : goal.given-requires-2-clause-pair
unfolding is_phrase is_utf8 chars encode_utf8
given-requires-2-clause-pair c = rw c.syllable-ce.ensures refl

pub given-requires-3-clause-pair : goal.given-requires-3-clause-pair
unfolding is_phrase is_utf8 chars encode_utf8
given-requires-3-clause-pair c = rw c.syllable-shi.ensures refl

pub given-requires-4-clause-pair : goal.given-requires-4-clause-pair
unfolding is_phrase is_utf8 chars encode_utf8
given-requires-4-clause-pair c = rw c.syllable-shi.ensures refl

pub given-requires-5-clause-pair : goal.given-requires-5-clause-pair
unfolding is_phrase is_utf8 chars encode_utf8
given-requires-5-clause-pair c = rw (c.syllable-ce.ensures, c.syllable-shi.ensures) refl

pub returns-clause-rows : goal.returns-clause-rows
unfolding five_rows encode_utf8
returns-clause-rows c = rw (c.in_ok-vec.ensures.items, c.given.ensures, c.given-2.ensures, c.given-3.ensures, c.given-4.ensures, c.given-5.ensures, c.syllable-ce.ensures, c.syllable-shi.ensures) refl
