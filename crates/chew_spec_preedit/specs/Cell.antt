-- The cells of the pre-edit buffer.
use Rattle.std.specs.Prelude.{ℕ, ◌-◌, Bool, true, false, ◌&&◌, List, nat_lt, slice_get}
use Rattle.std.specs.Option.{option_map_or}
use Rattle.chew_spec_syllable.specs.Syllable.{is_code}
use Rattle.chew_spec_text.specs.KeyStroke.{is_printable}

pub data Cell : Type 0 where
  -- a syllable, by its code
  Sound : (code : ℕ) → Cell
  -- a printable ASCII byte
  Symbol : (byte : ℕ) → Cell

-- the cell may stand in a buffer
abbrev pub is_cell : Cell → Bool
is_cell (Sound code) = is_code code
is_cell (Symbol byte) = is_printable byte

-- the cell is a syllable
abbrev pub is_sound : Cell → Bool
is_sound (Sound code) = true
is_sound (Symbol byte) = false

-- there is a syllable at the place
abbrev pub has_sound : List Cell → ℕ → Bool
has_sound cells place = option_map_or is_sound (slice_get cells place) false

-- a syllable stands right before the place, and one right behind it
abbrev pub is_between_sounds : List Cell → ℕ → Bool
is_between_sounds cells place = nat_lt 0 place && (has_sound cells (place - 1) && has_sound cells place)
