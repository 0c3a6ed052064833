-- Each value computes.
use Rattle.std.proofs.Common.{refl}
use lib.Utf8.{encode}
use Rattle.std.specs.Str.{chars, is_utf8}
use Rattle.chew_spec_syllable.specs.Phrase.{is_phrase}
use Rattle.chew_spec_dictionary.specs.FiveRows.{five_rows}
use Rattle.chew_spec_image.specs.Fields.{header_bytes, node_at, node_bytes, row_at, row_bytes}
use Rattle.chew_spec_image.specs.Image.{image}
use Rattle.chew_spec_image.specs.Reading.{image_reading}
use Rattle.chew_spec_image.proofs.laws.faults.known_header_faults.Goals as goal

pub returns-clause-magic : goal.returns-clause-magic
unfolding image image_reading header_bytes node_bytes row_bytes node_at row_at is_phrase is_utf8 chars encode five_rows
returns-clause-magic c = refl

pub returns-clause-rows : goal.returns-clause-rows
unfolding image image_reading header_bytes node_bytes row_bytes node_at row_at is_phrase is_utf8 chars encode five_rows
returns-clause-rows c = refl

pub returns-clause-most_rows : goal.returns-clause-most_rows
unfolding image image_reading header_bytes node_bytes row_bytes node_at row_at is_phrase is_utf8 chars encode five_rows
returns-clause-most_rows c = refl

pub returns-clause-no_node : goal.returns-clause-no_node
unfolding image image_reading header_bytes node_bytes row_bytes node_at row_at is_phrase is_utf8 chars encode five_rows
returns-clause-no_node c = refl

pub returns-clause-nodes : goal.returns-clause-nodes
unfolding image image_reading header_bytes node_bytes row_bytes node_at row_at is_phrase is_utf8 chars encode five_rows
returns-clause-nodes c = refl

pub returns-clause-most_nodes : goal.returns-clause-most_nodes
unfolding image image_reading header_bytes node_bytes row_bytes node_at row_at is_phrase is_utf8 chars encode five_rows
returns-clause-most_nodes c = refl

pub returns-clause-text : goal.returns-clause-text
unfolding image image_reading header_bytes node_bytes row_bytes node_at row_at is_phrase is_utf8 chars encode five_rows
returns-clause-text c = refl

pub returns-clause-most_text : goal.returns-clause-most_text
unfolding image image_reading header_bytes node_bytes row_bytes node_at row_at is_phrase is_utf8 chars encode five_rows
returns-clause-most_text c = refl

pub returns-clause-too_long : goal.returns-clause-too_long
unfolding image image_reading header_bytes node_bytes row_bytes node_at row_at is_phrase is_utf8 chars encode five_rows
returns-clause-too_long c = refl
