-- The text of a dictionary: in each line a phrase, its frequency and its syllables, and the first fault. The form is
-- this project's own, after libchewing's dictionary text.
use Rattle.std.specs.Prelude.{ℕ, Bool, ◌||◌, List, [], ◌∷◌, ◌++◌, length, drop, filter, chars, ◌==◌, nat_lt, nat_le, Option, Some, None, Result, Ok, Err, if◌then◌else◌}
use Rattle.std.specs.Option.{option_and_then, option_map}
use Rattle.std.specs.Result.{result_ok}
use Rattle.std.specs.List.{before_first, list_any, slice_split}
use Rattle.chew_spec_syllable.specs.Phrase.{is_phrase}
use Rattle.chew_spec_syllable.specs.Row.{Row, greatest_freq, is_pair_of}
use Rattle.chew_spec_syllable.specs.SyllableText.{code_reading}
use Rattle.chew_spec_text.specs.Digits.{number_up_to}
use Rattle.chew_spec_text.specs.Lines.{Fault, each_line, lines_of}

-- the most bytes of a dictionary's text, 64 MiB
abbrev pub system_limit : ℕ
system_limit = 67_108_864

-- the most rows of a dictionary's text
abbrev pub rows_limit : ℕ
rows_limit = 250_000

-- why a line gives no row, in the order in which it is told
pub data RowCause : Type 0 where
  -- the text is longer than 64 MiB
  Size : RowCause
  -- the first field is no phrase
  Phrase : RowCause
  -- the second field is missing, has a byte that isn't a digit, or is above the greatest frequency
  Frequency : RowCause
  -- one of the other fields is no syllable
  Syllable : RowCause
  -- there are not as many syllables as the phrase has characters
  Lengths : RowCause
  -- the pair stands in an earlier row
  Twice : RowCause
  -- it is the 250,001st row
  Rows : RowCause

-- a byte that begins a comment: '#'
abbrev pub is_hash : ℕ → Bool
is_hash byte = byte == 35

-- a byte that parts fields: a space or a tab
abbrev pub is_separator : ℕ → Bool
is_separator byte = byte == 32 || (byte == 9)

-- a field is not empty
abbrev pub is_field : List ℕ → Bool
is_field field = nat_lt 0 (length field)

-- the fields of a text that has no comment
abbrev pub fields_in : List ℕ → List (List ℕ)
fields_in text = filter is_field (slice_split is_separator text)

-- the fields of a line, which end where its comment begins
abbrev pub fields_of : List ℕ → List (List ℕ)
fields_of line = fields_in (before_first is_hash line)

-- the frequency that the first of these fields writes
abbrev pub freq_in : List (List ℕ) → Option ℕ
freq_in [] = None
freq_in (digits ∷ _) = number_up_to greatest_freq digits

-- the values of a list, where each element has one
abbrev pub each_value : {X Y : Type 0} → (X → Option Y) → List X → Option (List Y)
each_value f [] = Some []
each_value f (x ∷ xs) = option_and_then (λ y. option_map (λ ys. y ∷ ys) (each_value f xs)) (f x)

-- the codes of the syllables that the fields are
abbrev pub codes_in : List (List ℕ) → Option (List ℕ)
codes_in fields = each_value (λ field. result_ok (code_reading field)) fields

-- the row of a phrase with this frequency and key
abbrev pub row_with : List ℕ → Option ℕ → Option (List ℕ) → Result Row RowCause
row_with phrase None key = Err Frequency
row_with phrase (Some freq) None = Err Syllable
row_with phrase (Some freq) (Some key) =
    if length key == length (chars phrase)
    then Ok (record { key = key; phrase = phrase; freq = freq; time = 0 })
    else Err Lengths

-- the row of a phrase and the fields behind it
abbrev pub row_in : List ℕ → List (List ℕ) → Result Row RowCause
row_in phrase fields = if is_phrase phrase then row_with phrase (freq_in fields) (codes_in (drop 1 fields)) else Err Phrase

-- the rows and one more
abbrev pub with_row : List Row → Result Row RowCause → Result (List Row) RowCause
with_row rows (Err cause) = Err cause
with_row rows (Ok row) =
    if list_any (is_pair_of row.key row.phrase) rows then Err Twice
    else if nat_le rows_limit (length rows) then Err Rows
    else Ok (rows ++ row ∷ [])

-- the rows behind a line of these fields; a line without fields gives no row
abbrev pub with_fields : List Row → List (List ℕ) → Result (List Row) RowCause
with_fields rows [] = Ok rows
with_fields rows (phrase ∷ fields) = with_row rows (row_in phrase fields)

-- the rows of a text, in the order of its lines, or its first fault
unfoldable pub dictionary_rows : List ℕ → Result (List Row) (Fault RowCause)
dictionary_rows text =
    if nat_le (length text) system_limit
    then each_line (λ rows line. with_fields rows (fields_of line)) 1 [] (lines_of text)
    else Err (record { line = 0; cause = Size })
