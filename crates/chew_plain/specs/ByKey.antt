-- The rows of a map that keeps a list of rows for each key.
use Rattle.std.specs.Prelude.{ℕ, Bool, List, flat_map}
use Rattle.std.specs.List.{list_all}
use Rattle.chew_spec_syllable.specs.Row.{Row}
use Rattle.chew_spec_dictionary.specs.System.{is_under}

module _ {L : Type 0} (items : L → List Row) where
  -- all rows, list by list
  abbrev pub all_rows : List (List ℕ × L) → List Row
  all_rows lists = flat_map (λ e. items e.1) lists

  -- the rows of each list have its key
  abbrev pub are_own : List (List ℕ × L) → Bool
  are_own lists = list_all (λ e. list_all (is_under e.0) (items e.1)) lists
