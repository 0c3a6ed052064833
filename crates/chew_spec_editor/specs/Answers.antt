-- What the replies to a key's calls keep.
use Rattle.std.specs.Prelude.{◌≡◌, ◌<◌, ℕ, true, List, drop, length, slice_get, Some}
use Rattle.std.specs.List.{list_all}
use Rattle.chew_spec_syllable.specs.Row.{Row, is_row}
use Rattle.chew_spec_dictionary.specs.Call.{Call, Look, Reply, Rows}
use Rattle.chew_spec_dictionary.specs.Look.{hits_of}
use Rattle.chew_spec_preedit.specs.PlacedRun.{PlacedRun}
use Rattle.chew_spec_editor.specs.Pending.{Pending, calls_of, runs_asked}

-- the reply to a look-up of the run is what a dictionary finds there
pub record IsFound (run : PlacedRun) (reply : Reply) : Type 0 where
  pub rows : List Row
  pub are_rows : list_all is_row rows ≡ true
  pub is : reply ≡ Rows (hits_of rows run.codes)

-- one reply a call, and those to look-ups are what a dictionary finds
pub record AreAnswers (pending : Pending) (replies : List Reply) : Type 0 where
  pub one_each : length replies ≡ length (calls_of pending)
  pub found : (k : ℕ) (run : PlacedRun) (reply : Reply) → slice_get (runs_asked pending) k ≡ Some run
      → slice_get (drop (length pending.changes) replies) k ≡ Some reply → IsFound run reply

-- of the calls before a place, each look-up has what a dictionary finds as its reply
pub record AreFoundBefore (place : ℕ) (calls : List Call) (replies : List Reply) : Type 0 where
  pub each : (k : ℕ) (run : PlacedRun) (reply : Reply) → k < place → slice_get calls k ≡ Some (Look run.codes) → slice_get replies k ≡ Some reply
      → IsFound run reply
