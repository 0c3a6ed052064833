-- The marks that an iterator still gives.
use Rattle.std.specs.Prelude.{ℕ, Bool, true, List, [], Option, Some, None, if◌then◌else◌}
use Rattle.std.specs.List.{take_while}
use Rattle.chew_spec_layers.specs.Mark.{Marked}
use Rattle.chew_buffer.specs.Marks.{is_mark_under}

-- the mark is that of a pair of the one key that is wanted; where none is named, each is
abbrev pub is_wanted : Option (List ℕ) → Marked → Bool
is_wanted None marked = true
is_wanted (Some key) marked = is_mark_under key marked

-- the marks up to the first that isn't wanted; none once that was met
abbrev pub left : Bool → Option (List ℕ) → List Marked → List Marked
left ended only marks = if ended then [] else take_while (is_wanted only) marks
