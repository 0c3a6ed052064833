-- Runs that can be phrased.
use Rattle.std.specs.Prelude.{◌≡◌, ℕ, ◌<◌, ◌≤◌, List, length, slice_get, Option, Some}
use Rattle.chew_spec_syllable.specs.Row.{Row}
use Rattle.chew_spec_dictionary.specs.Call.{Hit, Reply}
use Rattle.chew_spec_phrasing.specs.CanSegment.{CanSegment}
use Rattle.chew_spec_phrasing.specs.CombinedRows.{combined_hits}
use Rattle.chew_spec_preedit.specs.Buffer.{Buffer}
use Rattle.chew_spec_preedit.specs.PlacedRun.{PlacedRun, choices_in, run_end}
use Rattle.chew_spec_editor.specs.Finish.{hits_in}

-- a run of a buffer that surely has a segmentation, given what its look-up found
pub record IsPhrasable (system : List Row) (buffer : Buffer) (run : PlacedRun) (hits : List Hit) : Type 0 where
  pub some : 0 < length run.codes
  pub within : run_end run ≤ 39
  pub possible : CanSegment (combined_hits system run.codes hits) (choices_in run buffer.choices) (length run.codes)

-- each run, by the reply to its look-up
pub record ArePhrasable (system : List Row) (buffer : Buffer) (runs : List PlacedRun) (replies : List Reply) : Type 0 where
  pub each : (k : ℕ) (run : PlacedRun) (reply : Reply) → slice_get runs k ≡ Some run → slice_get replies k ≡ Some reply
      → IsPhrasable system buffer run (hits_in reply)

-- where a window opens, its place is one of the first run
pub record HasPlace (runs : List PlacedRun) (opens : Option ℕ) : Type 0 where
  pub from : (place : ℕ) (run : PlacedRun) → opens ≡ Some place → slice_get runs 0 ≡ Some run → run.start ≤ place
  pub to : (place : ℕ) (run : PlacedRun) → opens ≡ Some place → slice_get runs 0 ≡ Some run → place < run_end run
