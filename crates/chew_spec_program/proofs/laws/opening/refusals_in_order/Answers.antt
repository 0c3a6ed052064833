-- Each value computes.
use Rattle.std.proofs.Common.{refl}
use lib.Utf8.{encode}
use Rattle.std.specs.Fmt.{digits}
use Rattle.std.specs.Str.{chars, is_utf8}
use Rattle.chew_spec_syllable.specs.Phrase.{is_phrase}
use Rattle.chew_spec_syllable.specs.SyllableText.{syllable_reading}
use Rattle.chew_spec_image.specs.Fields.{node_at, row_at}
use Rattle.chew_spec_image.specs.Reading.{image_reading}
use Rattle.chew_spec_text.specs.DictionaryText.{dictionary_rows}
use Rattle.chew_spec_text.specs.KeyStroke.{keys_in}
use Rattle.chew_spec_slots.specs.Reading.{saved_in}
use Rattle.chew_spec_slots.specs.Recovery.{recovered}
use Rattle.chew_spec_program.specs.Command.{command_of}
use Rattle.chew_spec_program.specs.Opening.{opening}
use Rattle.chew_spec_text.specs.Script.{script_of}
use Rattle.chew_spec_program.proofs.laws.opening.refusals_in_order.Goals as goal

pub returns-clause-words : goal.returns-clause-words
unfolding command_of opening dictionary_rows is_phrase is_utf8 chars syllable_reading encode script_of keys_in digits image_reading node_at row_at recovered saved_in
returns-clause-words c = refl

pub returns-clause-words_first : goal.returns-clause-words_first
unfolding command_of opening dictionary_rows is_phrase is_utf8 chars syllable_reading encode script_of keys_in digits image_reading node_at row_at recovered saved_in
returns-clause-words_first c = refl

pub returns-clause-failed_system : goal.returns-clause-failed_system
unfolding command_of opening dictionary_rows is_phrase is_utf8 chars syllable_reading encode script_of keys_in digits image_reading node_at row_at recovered saved_in
returns-clause-failed_system c = refl

pub returns-clause-system : goal.returns-clause-system
unfolding command_of opening dictionary_rows is_phrase is_utf8 chars syllable_reading encode script_of keys_in digits image_reading node_at row_at recovered saved_in
returns-clause-system c = refl

pub returns-clause-system_first : goal.returns-clause-system_first
unfolding command_of opening dictionary_rows is_phrase is_utf8 chars syllable_reading encode script_of keys_in digits image_reading node_at row_at recovered saved_in
returns-clause-system_first c = refl

pub returns-clause-script : goal.returns-clause-script
unfolding command_of opening dictionary_rows is_phrase is_utf8 chars syllable_reading encode script_of keys_in digits image_reading node_at row_at recovered saved_in
returns-clause-script c = refl

pub returns-clause-failed_script : goal.returns-clause-failed_script
unfolding command_of opening dictionary_rows is_phrase is_utf8 chars syllable_reading encode script_of keys_in digits image_reading node_at row_at recovered saved_in
returns-clause-failed_script c = refl

pub returns-clause-failed_disk : goal.returns-clause-failed_disk
unfolding command_of opening dictionary_rows is_phrase is_utf8 chars syllable_reading encode script_of keys_in digits image_reading node_at row_at recovered saved_in
returns-clause-failed_disk c = refl
