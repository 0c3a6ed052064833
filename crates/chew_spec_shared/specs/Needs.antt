-- What is needed after some entries, so that the base has all that they changed. This project's own.
use Rattle.std.specs.Prelude.{◌≡◌, ℕ, true, false, List, length, None, Some}
use Rattle.chew_spec_dictionary.specs.Dictionary.{Dictionary}
use Rattle.chew_spec_dictionary.specs.History.{Entry, start_of}
use Rattle.chew_spec_layers.specs.Need.{Need, Waiting, Fresh, Nothing}
use Rattle.chew_spec_layers.specs.Touches.{touched}
use Rattle.chew_spec_shared.specs.Snapshot.{installed_after, waiting_after}

-- some pair was touched since the installed entries, and none was
abbrev pub SomeTouched : Dictionary → List Entry → Type 0
SomeTouched start seen = (key : List ℕ) × (phrase : List ℕ) × (touched (start_of start) seen (installed_after start seen) (length seen) key phrase ≡ true)

abbrev pub NoneTouched : Dictionary → List Entry → Type 0
NoneTouched start seen = (key phrase : List ℕ) → touched (start_of start) seen (installed_after start seen) (length seen) key phrase ≡ false

-- a snapshot waits; or none does, and some pair was touched; or none does, and none was
abbrev pub IsNeed : Dictionary → List Entry → Need → Type 0
IsNeed start seen Waiting = (number : ℕ) × (waiting_after start seen ≡ Some number)
IsNeed start seen Fresh = (waiting_after start seen ≡ None) × SomeTouched start seen
IsNeed start seen Nothing = (waiting_after start seen ≡ None) × NoneTouched start seen
