-- The pieces of all intervals of a run, each found once.
use Rattle.std.specs.Prelude.{◌≡◌, ℕ, ◌+◌, ◌-◌, ◌*◌, ◌≤◌, ◌⊎◌, ◌&&◌, nat_le, List, Contains, slice_index_or, slice_set, Option, Some, None, if◌then◌else◌}
use Rattle.chew_spec_dictionary.specs.Look.{Interval}
use Rattle.chew_spec_phrasing.specs.Usable.{Piece}

-- a run of so many cells has 11 slots a cell, for the intervals that begin there, by their lengths
pub record Grid : Type 0 where
  pub cells : ℕ
  pub slots : List (Option Piece)

-- the slot of an interval
abbrev pub slot_of : Interval → ℕ
slot_of at = at.start * 11 + (at.len - 1)

-- the interval is one of the run's, of at most 11 syllables
pub record IsInside (cells : ℕ) (at : Interval) : Type 0 where
  pub some : 1 ≤ at.len
  pub short : at.len ≤ 11
  pub within : at.start + at.len ≤ cells

-- what is in the slot of an interval
abbrev pub in_slot : Grid → Interval → Option Piece
in_slot grid at = slice_index_or grid.slots (slot_of at) None

-- the piece of an interval of the run
unfoldable pub piece_in : Grid → Interval → Option Piece
piece_in grid at =
    if nat_le 1 at.len && (nat_le at.len 11 && nat_le (at.start + at.len) grid.cells) then in_slot grid at else None

-- the slots have the pieces of all intervals of the run
pub record IsGrid (usable : Interval → Option Piece) (grid : Grid) : Type 0 where
  pub each : (at : Interval) → IsInside grid.cells at → in_slot grid at ≡ usable at

-- the piece in the slot of an interval
abbrev pub put_in : Grid → Interval → Piece → Grid
put_in grid at piece = record { cells = grid.cells; slots = slice_set grid.slots (slot_of at) (Some piece) }

-- the slots have the full pieces of all intervals of the run but for those that aren't done, where they may have a part
pub record IsFilled (full part : Interval → Option Piece) (done : List Interval) (grid : Grid) : Type 0 where
  pub each : (at : Interval) → IsInside grid.cells at → (in_slot grid at ≡ full at) ⊎ ((in_slot grid at ≡ part at) × (Contains done at → ⊥))
