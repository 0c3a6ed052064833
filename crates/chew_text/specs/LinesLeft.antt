-- The lines of a text that are left to read.
use Rattle.std.specs.Prelude.{ℕ, Bool, List, [], if◌then◌else◌}
use Rattle.chew_spec_text.specs.Lines.{lines_of}

-- those of the rest of the text, where not all are read
abbrev pub lines_left : Bool → List ℕ → List (List ℕ)
lines_left ended rest = if ended then [] else lines_of rest
