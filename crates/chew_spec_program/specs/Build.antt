-- What `build` does: the text of a dictionary comes in, and the image of its rows goes out.
use Rattle.std.specs.Prelude.{ℕ, List, Result, Ok, Err}
use Rattle.chew_spec_syllable.specs.Row.{Row, image_cmp}
use Rattle.chew_spec_dictionary.specs.Order.{in_order}
use Rattle.chew_spec_image.specs.Image.{image}
use Rattle.chew_spec_text.specs.DictionaryText.{RowCause, dictionary_rows}
use Rattle.chew_spec_text.specs.Lines.{Fault}
use Rattle.chew_spec_program.specs.Answer.{Answers}
use Rattle.chew_spec_program.specs.Reading.{Watched}
use Rattle.chew_spec_program.specs.Refusal.{Refusal, WrongSystem}
use Rattle.chew_spec_program.specs.Writing.{Sunk}

-- the image of rows in image order, or the refusal of the text that has none
abbrev pub image_or_refusal : Result (List Row) (Fault RowCause) → Result (List ℕ) Refusal
image_or_refusal (Ok rows) = Ok (image (in_order image_cmp rows))
image_or_refusal (Err fault) = Err (WrongSystem fault)

-- the image of a text's rows
abbrev pub image_of_text : List ℕ → Result (List ℕ) Refusal
image_of_text text = image_or_refusal (dictionary_rows text)

-- a call of `build`
abbrev pub IsBuild : Watched → Sunk → ℕ → Type 0
IsBuild from sink status = Answers image_of_text from sink status
