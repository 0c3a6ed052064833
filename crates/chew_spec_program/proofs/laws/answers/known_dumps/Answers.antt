-- Each value computes.
use Rattle.std.proofs.Common.{refl}
use lib.Utf8.{encode}
use Rattle.std.specs.Fmt.{digits}
use Rattle.std.specs.Str.{chars, is_utf8}
use Rattle.chew_spec_syllable.specs.Phrase.{is_phrase}
use Rattle.chew_spec_syllable.specs.SyllableText.{syllable_reading, text_of}
use Rattle.chew_spec_dictionary.specs.FiveRows.{five_rows}
use Rattle.chew_spec_image.specs.Fields.{header_bytes, node_at, node_bytes, row_at, row_bytes}
use Rattle.chew_spec_image.specs.Image.{image}
use Rattle.chew_spec_image.specs.Reading.{image_reading}
use Rattle.chew_spec_text.specs.DictionaryText.{dictionary_rows}
use Rattle.chew_spec_program.proofs.laws.answers.known_dumps.Goals as goal

pub returns-clause-none : goal.returns-clause-none
unfolding image image_reading dictionary_rows header_bytes node_bytes row_bytes node_at row_at is_phrase is_utf8 chars encode five_rows syllable_reading digits text_of
returns-clause-none c = refl

pub returns-clause-five : goal.returns-clause-five
unfolding image image_reading dictionary_rows header_bytes node_bytes row_bytes node_at row_at is_phrase is_utf8 chars encode five_rows syllable_reading digits text_of
returns-clause-five c = refl

pub returns-clause-empty : goal.returns-clause-empty
unfolding image image_reading dictionary_rows header_bytes node_bytes row_bytes node_at row_at is_phrase is_utf8 chars encode five_rows syllable_reading digits text_of
returns-clause-empty c = refl

pub returns-clause-shorter : goal.returns-clause-shorter
unfolding image image_reading dictionary_rows header_bytes node_bytes row_bytes node_at row_at is_phrase is_utf8 chars encode five_rows syllable_reading digits text_of
returns-clause-shorter c = refl
