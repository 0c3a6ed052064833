-- Each value computes.
use Rattle.std.proofs.Common.{refl}
use lib.Utf8.{encode}
use Rattle.std.specs.Str.{chars, is_utf8}
use Rattle.chew_spec_syllable.specs.Phrase.{is_phrase}
use Rattle.chew_spec_syllable.specs.SyllableText.{syllable_reading}
use Rattle.chew_spec_text.specs.DictionaryText.{dictionary_rows}
use Rattle.chew_spec_text.proofs.laws.dictionary_text.known_row_faults.Goals as goal

pub returns-clause-phrase : goal.returns-clause-phrase
unfolding dictionary_rows is_phrase is_utf8 chars syllable_reading encode
returns-clause-phrase c = refl

pub returns-clause-frequency : goal.returns-clause-frequency
unfolding dictionary_rows is_phrase is_utf8 chars syllable_reading encode
returns-clause-frequency c = refl

pub returns-clause-missing : goal.returns-clause-missing
unfolding dictionary_rows is_phrase is_utf8 chars syllable_reading encode
returns-clause-missing c = refl

pub returns-clause-too_frequent : goal.returns-clause-too_frequent
unfolding dictionary_rows is_phrase is_utf8 chars syllable_reading encode
returns-clause-too_frequent c = refl

pub returns-clause-syllable : goal.returns-clause-syllable
unfolding dictionary_rows is_phrase is_utf8 chars syllable_reading encode
returns-clause-syllable c = refl

pub returns-clause-lengths : goal.returns-clause-lengths
unfolding dictionary_rows is_phrase is_utf8 chars syllable_reading encode
returns-clause-lengths c = refl

pub returns-clause-no_syllable : goal.returns-clause-no_syllable
unfolding dictionary_rows is_phrase is_utf8 chars syllable_reading encode
returns-clause-no_syllable c = refl

pub returns-clause-twice : goal.returns-clause-twice
unfolding dictionary_rows is_phrase is_utf8 chars syllable_reading encode
returns-clause-twice c = refl

pub returns-clause-frequency_first : goal.returns-clause-frequency_first
unfolding dictionary_rows is_phrase is_utf8 chars syllable_reading encode
returns-clause-frequency_first c = refl

pub returns-clause-lengths_first : goal.returns-clause-lengths_first
unfolding dictionary_rows is_phrase is_utf8 chars syllable_reading encode
returns-clause-lengths_first c = refl

pub returns-clause-two_returns : goal.returns-clause-two_returns
unfolding dictionary_rows is_phrase is_utf8 chars syllable_reading encode
returns-clause-two_returns c = refl

pub returns-clause-phrase_first : goal.returns-clause-phrase_first
unfolding dictionary_rows is_phrase is_utf8 chars syllable_reading encode
returns-clause-phrase_first c = refl

pub returns-clause-syllable_first : goal.returns-clause-syllable_first
unfolding dictionary_rows is_phrase is_utf8 chars syllable_reading encode
returns-clause-syllable_first c = refl

pub returns-clause-fault_first : goal.returns-clause-fault_first
unfolding dictionary_rows is_phrase is_utf8 chars syllable_reading encode
returns-clause-fault_first c = refl

pub returns-clause-more_syllables : goal.returns-clause-more_syllables
unfolding dictionary_rows is_phrase is_utf8 chars syllable_reading encode
returns-clause-more_syllables c = refl
