-- The spellings that the code's tables stand for.
use Rattle.std.specs.Prelude.{ℕ, List, ◌++◌, Option, find, bytes_eq, map, flat_map}
use Rattle.std.specs.Option.{option_map}
use Rattle.std.specs.Borrow.{Bor}
use Rattle.chew_spec_layout.specs.Spelling.{Spelling, joined}
use Rattle.chew_layout_pinyin.specs.declared.tables.Row.{Row}

-- letters, and their marks
abbrev pub spelled_of : Bor (List ℕ) × Bor (List ℕ) → Spelling
spelled_of entry = record { letters = entry.0.now; marks = entry.1.now }

-- the spellings of all groups
abbrev pub groups_of : List (Bor (List (Bor (List ℕ) × Bor (List ℕ)))) → List Spelling
groups_of groups = flat_map (λ group. map spelled_of group.now) groups

-- each initial of a row with each of its endings
abbrev pub row_of : Row → List Spelling
row_of row = flat_map (λ initial. map (joined (spelled_of initial)) (groups_of row.endings.now)) row.initials.now

-- the marks of the first spelling by these letters
abbrev pub marks_in : List Spelling → List ℕ → Option (List ℕ)
marks_in list letters = option_map (λ spelling. spelling.marks) (find (λ spelling. bytes_eq spelling.letters letters) list)

-- the text of what was found
abbrev pub text_in : Option (Bor (List ℕ)) → Option (List ℕ)
text_in found = option_map (λ text. text.now) found

-- the text of what was found in two parts
abbrev pub texts_in : Option (Bor (List ℕ) × Bor (List ℕ)) → Option (List ℕ)
texts_in found = option_map (λ texts. texts.0.now ++ texts.1.now) found
