-- Words for laws: the shown pieces of a run.
use Rattle.std.specs.Prelude.{ℕ, ◌-◌, List, map, filter, length, Option}
use Rattle.chew_spec_syllable.specs.Row.{Row}
use Rattle.chew_spec_dictionary.specs.Call.{Hit}
use Rattle.chew_spec_dictionary.specs.Look.{Interval}
use Rattle.chew_spec_phrasing.specs.Best.{IsBest}
use Rattle.chew_spec_phrasing.specs.CombinedRows.{combined_hits}
use Rattle.chew_spec_phrasing.specs.Usable.{Piece, piece_at}
use Rattle.chew_spec_preedit.specs.Buffer.{Buffer}
use Rattle.chew_spec_preedit.specs.PlacedRun.{PlacedRun, breaks_in, choices_in, is_in_run}

-- the piece so many cells further back
abbrev pub piece_back : ℕ → Piece → Piece
piece_back cells piece = record piece { start = piece.start - cells }

-- the pieces that begin in a run, by their places in the run
abbrev pub pieces_in : PlacedRun → List Piece → List Piece
pieces_in run pieces = map (piece_back run.start) (filter (λ piece. is_in_run run piece.start) pieces)

-- the piece that an interval of a run may be, given what the run's look-up found
abbrev pub usable_in : List Row → Buffer → PlacedRun → List Hit → Interval → Option Piece
usable_in system buffer run hits = piece_at (combined_hits system run.codes hits) (breaks_in run buffer.breaks) (choices_in run buffer.choices)

-- the pieces that begin in a run are its best segmentation, given what its look-up found
abbrev pub AreBestIn : List Row → Buffer → PlacedRun → List Hit → List Piece → Type 0
AreBestIn system buffer run hits pieces = IsBest (usable_in system buffer run hits) (length run.codes) (pieces_in run pieces)
