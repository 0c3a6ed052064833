-- The runs of the buffer: its stretches of syllables, which are phrased apart, and what of breaks, choices and pieces
-- is theirs.
use Rattle.std.specs.Prelude.{ℕ, suc, ◌+◌, ◌-◌, Bool, ◌&&◌, List, [], ◌∷◌, length, map, filter, find, ◌==◌, nat_lt, nat_le, Option, if◌then◌else◌}
use Rattle.chew_spec_phrasing.specs.Usable.{Choice, Piece}
use Rattle.chew_spec_preedit.specs.Buffer.{choice_back}
use Rattle.chew_spec_preedit.specs.Cell.{Cell, Sound, Symbol}

-- the codes of a run, and the place of its first cell in the buffer
pub record PlacedRun : Type 0 where
  pub start : ℕ
  pub codes : List ℕ

-- the place behind its last cell
abbrev pub run_end : PlacedRun → ℕ
run_end run = run.start + length run.codes

-- a syllable joins the run that begins right behind it, and else is a run by itself
abbrev pub with_sound : ℕ → ℕ → List PlacedRun → List PlacedRun
with_sound place code [] = record { start = place; codes = code ∷ [] } ∷ []
with_sound place code (run ∷ runs) =
    if run.start == suc place
    then record { start = place; codes = code ∷ run.codes } ∷ runs
    else record { start = place; codes = code ∷ [] } ∷ (run ∷ runs)

-- the runs of cells of which the first stands at a place
abbrev pub runs_from : ℕ → List Cell → List PlacedRun
runs_from place [] = []
runs_from place (Sound code ∷ cells) = with_sound place code (runs_from (suc place) cells)
runs_from place (Symbol byte ∷ cells) = runs_from (suc place) cells

-- all runs of the cells, from left to right
unfoldable pub runs_of : List Cell → List PlacedRun
runs_of cells = runs_from 0 cells

-- the syllables that cells begin with, up to the first symbol
abbrev pub leading_codes : List Cell → List ℕ
leading_codes [] = []
leading_codes (Sound code ∷ cells) = code ∷ leading_codes cells
leading_codes (Symbol byte ∷ cells) = []

-- the place is one of the run's cells
abbrev pub is_in_run : PlacedRun → ℕ → Bool
is_in_run run place = nat_le run.start place && nat_lt place (run_end run)

-- the run that has the cell at a place
abbrev pub run_at : List Cell → ℕ → Option PlacedRun
run_at cells place = find (λ run. is_in_run run place) (runs_of cells)

-- the breaks inside a run, by their places in the run
abbrev pub breaks_in : PlacedRun → List ℕ → List ℕ
breaks_in run breaks = map (λ place. place - run.start) (filter (λ place. nat_lt run.start place && nat_lt place (run_end run)) breaks)

-- the choices in a run, by their places in the run
abbrev pub choices_in : PlacedRun → List Choice → List Choice
choices_in run choices = map (choice_back run.start) (filter (λ choice. is_in_run run choice.start) choices)

-- the piece by its place in the buffer
abbrev pub piece_on : ℕ → Piece → Piece
piece_on cells piece = record piece { start = cells + piece.start }

-- the pieces of a run, by their places in the buffer
abbrev pub placed : PlacedRun → List Piece → List Piece
placed run pieces = map (piece_on run.start) pieces
