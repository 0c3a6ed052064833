-- Each value computes.
use Rattle.std.proofs.Common.{refl}
use lib.Utf8.{encode}
use Rattle.std.specs.Fmt.{digits}
use Rattle.std.specs.Str.{chars, is_utf8}
use Rattle.chew_spec_syllable.specs.Phrase.{is_phrase}
use Rattle.chew_spec_syllable.specs.SyllableText.{syllable_reading}
use Rattle.chew_spec_image.specs.Fields.{node_at, row_at}
use Rattle.chew_spec_image.specs.Reading.{image_reading}
use Rattle.chew_spec_text.specs.DictionaryText.{dictionary_rows}
use Rattle.chew_spec_text.specs.KeyStroke.{keys_in}
use Rattle.chew_spec_slots.specs.Reading.{saved_in}
use Rattle.chew_spec_slots.specs.Recovery.{recovered}
use Rattle.chew_spec_program.specs.Command.{command_of}
use Rattle.chew_spec_program.specs.Opening.{opening}
use Rattle.chew_spec_text.specs.Script.{script_of}
use Rattle.chew_spec_program.proofs.laws.opening.known_inputs.Goals as goal

pub returns-clause-five : goal.returns-clause-five
unfolding command_of opening dictionary_rows is_phrase is_utf8 chars syllable_reading encode script_of keys_in digits image_reading node_at row_at recovered saved_in
returns-clause-five c = refl

pub returns-clause-empty : goal.returns-clause-empty
unfolding command_of opening dictionary_rows is_phrase is_utf8 chars syllable_reading encode script_of keys_in digits image_reading node_at row_at recovered saved_in
returns-clause-empty c = refl

pub returns-clause-traced : goal.returns-clause-traced
unfolding command_of opening dictionary_rows is_phrase is_utf8 chars syllable_reading encode script_of keys_in digits image_reading node_at row_at recovered saved_in
returns-clause-traced c = refl
