-- Each value computes.
use Rattle.std.proofs.Common.{refl}
use lib.Utf8.{encode}
use Rattle.std.specs.Str.{chars, is_utf8}
use Rattle.chew_spec_syllable.specs.Phrase.{is_phrase}
use Rattle.chew_spec_dictionary.specs.FiveRows.{five_rows}
use Rattle.chew_spec_image.specs.Fields.{header_bytes, node_at, node_bytes, row_at, row_bytes}
use Rattle.chew_spec_image.specs.Image.{image}
use Rattle.chew_spec_image.specs.Reading.{image_reading}
use Rattle.chew_spec_image.proofs.laws.faults.known_faults_of_rows.Goals as goal

pub returns-clause-greatest : goal.returns-clause-greatest
unfolding image image_reading header_bytes node_bytes row_bytes node_at row_at is_phrase is_utf8 chars encode five_rows
returns-clause-greatest c = refl

pub returns-clause-too_frequent : goal.returns-clause-too_frequent
unfolding image image_reading header_bytes node_bytes row_bytes node_at row_at is_phrase is_utf8 chars encode five_rows
returns-clause-too_frequent c = refl

pub returns-clause-text_start : goal.returns-clause-text_start
unfolding image image_reading header_bytes node_bytes row_bytes node_at row_at is_phrase is_utf8 chars encode five_rows
returns-clause-text_start c = refl

pub returns-clause-past : goal.returns-clause-past
unfolding image image_reading header_bytes node_bytes row_bytes node_at row_at is_phrase is_utf8 chars encode five_rows
returns-clause-past c = refl

pub returns-clause-fewer : goal.returns-clause-fewer
unfolding image image_reading header_bytes node_bytes row_bytes node_at row_at is_phrase is_utf8 chars encode five_rows
returns-clause-fewer c = refl

pub returns-clause-no_phrase : goal.returns-clause-no_phrase
unfolding image image_reading header_bytes node_bytes row_bytes node_at row_at is_phrase is_utf8 chars encode five_rows
returns-clause-no_phrase c = refl

pub returns-clause-below : goal.returns-clause-below
unfolding image image_reading header_bytes node_bytes row_bytes node_at row_at is_phrase is_utf8 chars encode five_rows
returns-clause-below c = refl

pub returns-clause-same : goal.returns-clause-same
unfolding image image_reading header_bytes node_bytes row_bytes node_at row_at is_phrase is_utf8 chars encode five_rows
returns-clause-same c = refl

pub returns-clause-more_text : goal.returns-clause-more_text
unfolding image image_reading header_bytes node_bytes row_bytes node_at row_at is_phrase is_utf8 chars encode five_rows
returns-clause-more_text c = refl
