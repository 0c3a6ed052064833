-- The row of a key that is shown first, of the system's rows alone.
use Rattle.std.specs.Prelude.{◌≡◌, ℕ, ◌-◌, ◌≤◌, true, false, List, Contains, length, take, drop, slice_get, Some}
use Rattle.std.specs.List.{list_all}
use Rattle.std.specs.Ordering.{is_lt}
use Rattle.chew_spec_syllable.specs.Row.{Row, is_row}
use Rattle.chew_spec_dictionary.specs.Look.{shown_cmp}
use Rattle.chew_spec_dictionary.specs.System.{rows_of}

-- the rows from a place up to another
abbrev pub rows_between : List Row → (start end : ℕ) → List Row
rows_between rows start end = take (end - start) (drop start rows)

-- they are those of a key
pub record AreOfKey (rows : List Row) (start end : ℕ) (key : List ℕ) : Type 0 where
  pub together : rows_between rows start end ≡ rows_of rows key
  pub within : end ≤ length rows
  pub each : list_all is_row rows ≡ true

-- it is one of these rows, and none of them is shown before it
pub record IsShownFirst (rows : List Row) (first : Row) : Type 0 where
  pub among : Contains rows first
  pub unbeaten : (row : Row) → Contains rows row → is_lt (shown_cmp row first) ≡ false

-- the row at a place is shown first of these
pub record IsFirstPlace (rows among : List Row) (place : ℕ) : Type 0 where
  pub row : Row
  pub is : slice_get rows place ≡ Some row
  pub first : IsShownFirst among row

-- the places of a key's rows, and that of the one which is shown first
pub record FirstPlace : Type 0 where
  pub start : ℕ
  pub end : ℕ
  pub place : ℕ

-- the row there is shown first
pub record IsKnown (rows : List Row) (first : FirstPlace) : Type 0 where
  pub found : IsFirstPlace rows (rows_between rows first.start first.end) first.place

-- the row at a place is shown first of these, and has this phrase and this frequency
pub record IsFirstSoFar (rows among : List Row) (place : ℕ) (phrase : List ℕ) (freq : ℕ) : Type 0 where
  pub found : IsFirstPlace rows among place
  pub its_phrase : found.row.phrase ≡ phrase
  pub its_freq : found.row.freq ≡ freq
