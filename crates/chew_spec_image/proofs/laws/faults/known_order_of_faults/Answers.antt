-- Each value computes.
use Rattle.std.proofs.Common.{refl}
use lib.Utf8.{encode}
use Rattle.std.specs.Str.{chars, is_utf8}
use Rattle.chew_spec_syllable.specs.Phrase.{is_phrase}
use Rattle.chew_spec_dictionary.specs.FiveRows.{five_rows}
use Rattle.chew_spec_image.specs.Fields.{header_bytes, node_at, node_bytes, row_at, row_bytes}
use Rattle.chew_spec_image.specs.Image.{image}
use Rattle.chew_spec_image.specs.Reading.{image_reading}
use Rattle.chew_spec_image.proofs.laws.faults.known_order_of_faults.Goals as goal

pub returns-clause-fields : goal.returns-clause-fields
unfolding image image_reading header_bytes node_bytes row_bytes node_at row_at is_phrase is_utf8 chars encode five_rows
returns-clause-fields c = refl

pub returns-clause-time : goal.returns-clause-time
unfolding image image_reading header_bytes node_bytes row_bytes node_at row_at is_phrase is_utf8 chars encode five_rows
returns-clause-time c = refl
