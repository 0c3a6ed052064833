-- Each value computes.
use Rattle.std.proofs.Common.{refl}
use lib.Utf8.{encode}
use Rattle.std.specs.Str.{chars, is_utf8}
use Rattle.chew_spec_dictionary.specs.FiveRows.{five_rows}
use Rattle.chew_spec_syllable.specs.Phrase.{is_phrase}
use Rattle.chew_spec_syllable.specs.SyllableText.{syllable_reading}
use Rattle.chew_spec_text.specs.DictionaryText.{dictionary_rows}
use Rattle.chew_spec_text.proofs.laws.dictionary_text.known_rows.Goals as goal

pub returns-clause-five : goal.returns-clause-five
unfolding dictionary_rows five_rows is_phrase is_utf8 chars syllable_reading encode
returns-clause-five c = refl

pub returns-clause-comment : goal.returns-clause-comment
unfolding dictionary_rows five_rows is_phrase is_utf8 chars syllable_reading encode
returns-clause-comment c = refl

pub returns-clause-carriage_returns : goal.returns-clause-carriage_returns
unfolding dictionary_rows five_rows is_phrase is_utf8 chars syllable_reading encode
returns-clause-carriage_returns c = refl

pub returns-clause-empty_line : goal.returns-clause-empty_line
unfolding dictionary_rows five_rows is_phrase is_utf8 chars syllable_reading encode
returns-clause-empty_line c = refl

pub returns-clause-not_ended : goal.returns-clause-not_ended
unfolding dictionary_rows five_rows is_phrase is_utf8 chars syllable_reading encode
returns-clause-not_ended c = refl

pub returns-clause-tabs : goal.returns-clause-tabs
unfolding dictionary_rows five_rows is_phrase is_utf8 chars syllable_reading encode
returns-clause-tabs c = refl

pub returns-clause-spaces : goal.returns-clause-spaces
unfolding dictionary_rows five_rows is_phrase is_utf8 chars syllable_reading encode
returns-clause-spaces c = refl

pub returns-clause-zeros : goal.returns-clause-zeros
unfolding dictionary_rows five_rows is_phrase is_utf8 chars syllable_reading encode
returns-clause-zeros c = refl

pub returns-clause-greatest : goal.returns-clause-greatest
unfolding dictionary_rows five_rows is_phrase is_utf8 chars syllable_reading encode
returns-clause-greatest c = refl

pub returns-clause-empty : goal.returns-clause-empty
unfolding dictionary_rows five_rows is_phrase is_utf8 chars syllable_reading encode
returns-clause-empty c = refl

pub returns-clause-hash : goal.returns-clause-hash
unfolding dictionary_rows five_rows is_phrase is_utf8 chars syllable_reading encode
returns-clause-hash c = refl
