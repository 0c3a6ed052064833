-- The rows of an image that comes in, and what `check` and `dump` tell of them.
use Rattle.std.specs.Prelude.{ℕ, List, ◌++◌, codes, decimal, length, nat_le, Result, Ok, Err, if◌then◌else◌}
use Rattle.chew_spec_syllable.specs.Row.{Row}
use Rattle.chew_spec_image.specs.NodeKeys.{node_keys}
use Rattle.chew_spec_image.specs.Reading.{image_reading}
use Rattle.chew_spec_text.specs.DictionaryText.{Size, system_limit}
use Rattle.chew_spec_text.specs.Line.{with_line_feed}
use Rattle.chew_spec_text.specs.RowText.{rows_text}
use Rattle.chew_spec_program.specs.Answer.{Answers}
use Rattle.chew_spec_program.specs.Reading.{Watched}
use Rattle.chew_spec_program.specs.Refusal.{Refusal, WrongImage, WrongSystem}
use Rattle.chew_spec_program.specs.Writing.{Sunk}

-- rows, or the refusal of the bytes that have a fault at a place
abbrev pub rows_or_refusal : Result (List Row) ℕ → Result (List Row) Refusal
rows_or_refusal (Ok rows) = Ok rows
rows_or_refusal (Err place) = Err (WrongImage place)

-- the rows of an image of at most 64 MiB
abbrev pub rows_of_image : List ℕ → Result (List Row) Refusal
rows_of_image bytes =
    if nat_le (length bytes) system_limit
    then rows_or_refusal (image_reading bytes)
    else Err (WrongSystem (record { line = 0; cause = Size }))

-- what is told of rows
abbrev pub told_of : (List Row → List ℕ) → Result (List Row) Refusal → Result (List ℕ) Refusal
told_of tell (Ok rows) = Ok (tell rows)
told_of tell (Err refusal) = Err refusal

-- their number and that of the image's nodes
abbrev pub counts_line : List Row → List ℕ
counts_line rows = codes "rows " ++ (decimal (length rows) ++ (codes " nodes " ++ with_line_feed (decimal (length (node_keys rows)))))

-- what `check` answers
abbrev pub check_of : List ℕ → Result (List ℕ) Refusal
check_of bytes = told_of counts_line (rows_of_image bytes)

-- what `dump` answers: a line for each row
abbrev pub dump_of : List ℕ → Result (List ℕ) Refusal
dump_of bytes = told_of rows_text (rows_of_image bytes)

-- a call of `check`
abbrev pub IsCheck : Watched → Sunk → ℕ → Type 0
IsCheck from sink status = Answers check_of from sink status

-- a call of `dump`
abbrev pub IsDump : Watched → Sunk → ℕ → Type 0
IsDump from sink status = Answers dump_of from sink status
