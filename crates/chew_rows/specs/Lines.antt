-- What one line more makes of rows.
use Rattle.std.specs.Prelude.{◌≡◌, ℕ, true, List, Result, Ok}
use Rattle.chew_spec_syllable.specs.Row.{Row, no_pair_twice}
use Rattle.chew_spec_text.specs.DictionaryText.{RowCause, fields_of, with_fields}

-- the rows with the row of a line, where it has one
abbrev pub taken : List Row → List ℕ → Result (List Row) RowCause
taken rows line = with_fields rows (fields_of line)

-- if no pair stands twice among these rows, none does among those before the line, and they are what it makes of those
pub record Follows (rows : List Row) (line : List ℕ) (more : List Row) : Type 0 where
  pub apart : no_pair_twice more ≡ true → no_pair_twice rows ≡ true
  pub is : no_pair_twice more ≡ true → taken rows line ≡ Ok more
