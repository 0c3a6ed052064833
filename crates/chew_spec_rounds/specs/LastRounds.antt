-- When nothing of a history is left to save, by what a last round is made for.
use Rattle.std.specs.Prelude.{◌≡◌, ℕ, false, List, length, None}
use Rattle.chew_spec_dictionary.specs.Dictionary.{Dictionary}
use Rattle.chew_spec_dictionary.specs.History.{Entry, start_of}
use Rattle.chew_spec_layers.specs.Touches.{touched}
use Rattle.chew_spec_rounds.specs.Front.{shape_after}

-- no snapshot waits, and no entry since the installed ones changed a pair
pub record IsAllSaved (start : Dictionary) (history : List Entry) : Type 0 where
  pub nothing_waits : (shape_after start history).waiting ≡ None
  pub nothing_fresh : (key phrase : List ℕ) → touched (start_of start) history (shape_after start history).installed (length history) key phrase ≡ false
