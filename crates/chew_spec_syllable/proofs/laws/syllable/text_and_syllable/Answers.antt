-- By the marks of a text.
use Rattle.chew_spec_syllable.proofs.Reading.{text_read, read_text, read_valid}
use Rattle.chew_spec_syllable.proofs.laws.syllable.text_and_syllable.Goals as goal

pub returns : goal.returns
returns c = record { read = text_read; text = read_text; valid = read_valid }
