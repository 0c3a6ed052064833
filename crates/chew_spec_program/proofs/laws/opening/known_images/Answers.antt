-- Each value computes.
use Rattle.std.proofs.Common.{refl}
use lib.Utf8.{encode}
use Rattle.std.specs.Fmt.{digits}
use Rattle.std.specs.Str.{chars, is_utf8}
use Rattle.chew_spec_syllable.specs.Phrase.{is_phrase}
use Rattle.chew_spec_syllable.specs.SyllableText.{syllable_reading}
use Rattle.chew_spec_image.specs.Fields.{node_at, row_at}
use Rattle.chew_spec_image.specs.Reading.{image_reading}
use Rattle.chew_spec_text.specs.DictionaryText.{dictionary_rows}
use Rattle.chew_spec_text.specs.KeyStroke.{keys_in}
use Rattle.chew_spec_slots.specs.Reading.{saved_in}
use Rattle.chew_spec_slots.specs.Recovery.{recovered}
use Rattle.chew_spec_program.specs.Command.{command_of}
use Rattle.chew_spec_program.specs.Opening.{opening}
use Rattle.chew_spec_text.specs.Script.{script_of}
use Rattle.chew_spec_program.proofs.laws.opening.known_images.Goals as goal

pub returns-clause-shorter : goal.returns-clause-shorter
unfolding command_of opening dictionary_rows is_phrase is_utf8 chars syllable_reading encode script_of keys_in digits image_reading node_at row_at recovered saved_in
returns-clause-shorter c = refl

pub returns-clause-header : goal.returns-clause-header
unfolding command_of opening dictionary_rows is_phrase is_utf8 chars syllable_reading encode script_of keys_in digits image_reading node_at row_at recovered saved_in
returns-clause-header c = refl

pub returns-clause-cut : goal.returns-clause-cut
unfolding command_of opening dictionary_rows is_phrase is_utf8 chars syllable_reading encode script_of keys_in digits image_reading node_at row_at recovered saved_in
returns-clause-cut c = refl

pub returns-clause-rows : goal.returns-clause-rows
unfolding command_of opening dictionary_rows is_phrase is_utf8 chars syllable_reading encode script_of keys_in digits image_reading node_at row_at recovered saved_in
returns-clause-rows c = refl
