-- A map with a newer layer over it. This project's own.
use Rattle.std.specs.Prelude.{ℕ, not, List, ◌++◌, filter, filter_map, is_some, Option}
use Rattle.std.specs.Option.{option_map_or}
use Rattle.chew_spec_syllable.specs.Row.{Row, image_cmp}
use Rattle.chew_spec_dictionary.specs.Order.{in_order}
use Rattle.chew_spec_layers.specs.Mark.{Marked, mark_of, row_of_mark}

-- the rows whose pair has no mark
abbrev pub unmarked_rows : List Row → List Marked → List Row
unmarked_rows rows marks = filter (λ row. not (is_some (mark_of marks row.key row.phrase))) rows

-- the rows of the live marks
abbrev pub live_rows : List Marked → List Row
live_rows marks = filter_map (λ marked. row_of_mark marked.key marked.phrase marked.mark) marks

-- the rows whose pair has no mark, together with those of the live marks
unfoldable pub overlay : List Row → List Marked → List Row
overlay rows marks = in_order image_cmp (unmarked_rows rows marks ++ live_rows marks)

-- what is said of a pair where a layer lies over this: by its mark, or by what is below where it has none
abbrev pub says_over : List Marked → List ℕ → List ℕ → Option Row → Option Row
says_over marks key phrase below = option_map_or (row_of_mark key phrase) (mark_of marks key phrase) below
