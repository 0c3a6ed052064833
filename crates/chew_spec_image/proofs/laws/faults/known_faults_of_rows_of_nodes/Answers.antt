-- Each value computes.
use Rattle.std.proofs.Common.{refl}
use lib.Utf8.{encode}
use Rattle.std.specs.Str.{chars, is_utf8}
use Rattle.chew_spec_syllable.specs.Phrase.{is_phrase}
use Rattle.chew_spec_dictionary.specs.FiveRows.{five_rows}
use Rattle.chew_spec_image.specs.Fields.{header_bytes, node_at, node_bytes, row_at, row_bytes}
use Rattle.chew_spec_image.specs.Image.{image}
use Rattle.chew_spec_image.specs.Reading.{image_reading}
use Rattle.chew_spec_image.proofs.laws.faults.known_faults_of_rows_of_nodes.Goals as goal

pub returns-clause-root : goal.returns-clause-root
unfolding image image_reading header_bytes node_bytes row_bytes node_at row_at is_phrase is_utf8 chars encode five_rows
returns-clause-root c = refl

pub returns-clause-past : goal.returns-clause-past
unfolding image image_reading header_bytes node_bytes row_bytes node_at row_at is_phrase is_utf8 chars encode five_rows
returns-clause-past c = refl

pub returns-clause-none : goal.returns-clause-none
unfolding image image_reading header_bytes node_bytes row_bytes node_at row_at is_phrase is_utf8 chars encode five_rows
returns-clause-none c = refl

pub returns-clause-twice : goal.returns-clause-twice
unfolding image image_reading header_bytes node_bytes row_bytes node_at row_at is_phrase is_utf8 chars encode five_rows
returns-clause-twice c = refl

pub returns-clause-first_of_root : goal.returns-clause-first_of_root
unfolding image image_reading header_bytes node_bytes row_bytes node_at row_at is_phrase is_utf8 chars encode five_rows
returns-clause-first_of_root c = refl

pub returns-clause-first : goal.returns-clause-first
unfolding image image_reading header_bytes node_bytes row_bytes node_at row_at is_phrase is_utf8 chars encode five_rows
returns-clause-first c = refl

pub returns-clause-fewer : goal.returns-clause-fewer
unfolding image image_reading header_bytes node_bytes row_bytes node_at row_at is_phrase is_utf8 chars encode five_rows
returns-clause-fewer c = refl
