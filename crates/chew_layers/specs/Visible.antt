-- The rows of a key that no newer layer hides, layer by layer.
use Rattle.std.specs.Prelude.{ℕ, List, ◌++◌}
use Rattle.chew_spec_syllable.specs.Row.{Row}
use Rattle.chew_spec_dictionary.specs.System.{rows_of}
use Rattle.chew_spec_layers.specs.Mark.{Marked}
use Rattle.chew_spec_layers.specs.Overlay.{live_rows, unmarked_rows}
use Rattle.chew_buffer.specs.Marks.{marks_under}

-- those of the base
abbrev pub base_rows : List Row → (frozen fresh : List Marked) → List ℕ → List Row
base_rows base frozen fresh key = unmarked_rows (unmarked_rows (rows_of base key) frozen) fresh

-- those of marks with newer ones over them
abbrev pub marked_rows : (marks newer : List Marked) → List ℕ → List Row
marked_rows marks newer key = unmarked_rows (live_rows (marks_under marks key)) newer

-- all of them
abbrev pub visible_rows : List Row → (frozen fresh : List Marked) → List ℕ → List Row
visible_rows base frozen fresh key = (base_rows base frozen fresh key ++ marked_rows frozen fresh key) ++ live_rows (marks_under fresh key)
