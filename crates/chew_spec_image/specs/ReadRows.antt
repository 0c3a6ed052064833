-- The rows that an image's rows and text stand for, or the place of the first faulty field.
use Rattle.std.specs.Prelude.{ℕ, ◌+◌, Bool, ◌&&◌, ◌||◌, List, [], ◌∷◌, length, take, drop, chars, ◌==◌, nat_le, Option, None, Result, Ok, Err, if◌then◌else◌}
use Rattle.std.specs.Ordering.{nat_cmp, is_lt}
use Rattle.std.specs.Cmp.Lexicographic.{slice_cmp}
use Rattle.chew_spec_syllable.specs.Phrase.{is_phrase}
use Rattle.chew_spec_syllable.specs.Row.{Row, greatest_freq}
use Rattle.chew_spec_image.specs.Fields.{RowFields}
use Rattle.chew_spec_image.specs.ReadNodes.{Due, checked, unless_fault, with_front}

-- what the rows read so far leave: the phrase of the last one, the bytes of all their phrases, and the place of the
-- next one
pub record RowsRead : Type 0 where
  pub phrase : List ℕ
  pub text_start : ℕ
  pub place : ℕ

-- the phrase of a row
abbrev pub phrase_in : List ℕ → RowFields → List ℕ
phrase_in text fields = take fields.text_len (drop fields.text_start text)

-- the rows read so far, and one more
abbrev pub past_row : List ℕ → RowsRead → RowFields → RowsRead
past_row text read fields = record {
  phrase = phrase_in text fields;
  text_start = read.text_start + fields.text_len;
  place = read.place + 20;
}

-- the phrase is one of as many characters as the key has codes and, where the row isn't the first of its key, above that
-- of the row before it
abbrev pub phrase_fits : (len : ℕ) → (first : Bool) → RowsRead → List ℕ → Bool
phrase_fits len first read phrase =
    is_phrase phrase && ((length (chars phrase) == len) && (first || is_lt (slice_cmp nat_cmp read.phrase phrase)))

-- the frequency is in range, the phrase begins where the one before it ends, and is within the text
abbrev pub row_fault : List ℕ → (len : ℕ) → (first : Bool) → RowsRead → RowFields → Option ℕ
row_fault text len first read fields =
    checked (nat_le fields.freq greatest_freq) read.place
    (checked (fields.text_start == read.text_start) (read.place + 4)
    (checked (nat_le (read.text_start + fields.text_len) (length text) && phrase_fits len first read (phrase_in text fields)) (read.place + 8)
    None))

-- the row of a key
abbrev pub row_of : List ℕ → Due → RowFields → Row
row_of text due fields = record { key = due.key; phrase = phrase_in text fields; freq = fields.freq; time = fields.time }

-- the rows; their phrases are all of the text
abbrev pub read_rows : List ℕ → RowsRead → List (Due × RowFields) → Result (List Row) ℕ
read_rows text read [] = if read.text_start == length text then Ok [] else Err 16
read_rows text read (row ∷ rows) =
    unless_fault (row_fault text (length row.0.key) row.0.first read row.1)
    (with_front (row_of text row.0 row.1 ∷ []) (read_rows text (past_row text read row.1) rows))
