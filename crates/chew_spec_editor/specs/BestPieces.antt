-- Words for laws: an editor of which each run shows its best pieces.
use Rattle.std.specs.Prelude.{◌≡◌, ℕ, true, List, slice_get, Some}
use Rattle.std.specs.List.{list_all}
use Rattle.chew_spec_syllable.specs.Row.{Row, is_row}
use Rattle.chew_spec_dictionary.specs.Look.{hits_of}
use Rattle.chew_spec_preedit.specs.PlacedRun.{PlacedRun, runs_of}
use Rattle.chew_spec_editor.specs.Editor.{Editor}
use Rattle.chew_spec_editor.specs.RunPieces.{AreBestIn}

-- the pieces of a run are the best, given what a dictionary found there
pub record IsBestFor (system : List Row) (editor : Editor) (run : PlacedRun) : Type 0 where
  pub rows : List Row
  pub are_rows : list_all is_row rows ≡ true
  pub best : AreBestIn system editor.buffer run (hits_of rows run.codes) editor.pieces

-- and so are those of every run
pub record IsPhrased (system : List Row) (editor : Editor) : Type 0 where
  pub each : (k : ℕ) (run : PlacedRun) → slice_get (runs_of editor.buffer.cells) k ≡ Some run → IsBestFor system editor run
