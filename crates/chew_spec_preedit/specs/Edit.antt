-- The edits of the pre-edit buffer. An edit takes away the breaks and choices that it touches, and moves those behind it
-- along.
use Rattle.std.specs.Prelude.{ℕ, suc, ◌+◌, ◌-◌, Bool, not, ◌&&◌, List, [], ◌∷◌, ◌++◌, map, filter, length, take, drop, ◌==◌, nat_lt, nat_le, if◌then◌else◌}
use Rattle.std.specs.List.{list_any}
use Rattle.chew_spec_phrasing.specs.Usable.{Choice, choice_end}
use Rattle.chew_spec_preedit.specs.Cell.{Cell, is_between_sounds}
use Rattle.chew_spec_preedit.specs.Buffer.{Buffer, choice_back, choice_on}

-- the choices that end at the place or before it, and those that begin there or behind it
abbrev pub choices_before : ℕ → List Choice → List Choice
choices_before place choices = filter (λ choice. nat_le (choice_end choice) place) choices

abbrev pub choices_behind : ℕ → List Choice → List Choice
choices_behind place choices = filter (λ choice. nat_le place choice.start) choices

-- the breaks before a place, and those behind it
abbrev pub breaks_before : ℕ → List ℕ → List ℕ
breaks_before place breaks = filter (λ at. nat_lt at place) breaks

abbrev pub breaks_behind : ℕ → List ℕ → List ℕ
breaks_behind place breaks = filter (nat_lt place) breaks

-- the buffer takes no cell more
abbrev pub is_full : Buffer → Bool
is_full buffer = nat_le buffer.limit (length buffer.cells)

-- a cell at the cursor, which moves past it: a break there goes, and so does a choice that has the place strictly inside
unfoldable pub inserted : Buffer → Cell → Buffer
inserted had cell = record had {
  cells = take had.cursor had.cells ++ (cell ∷ drop had.cursor had.cells);
  cursor = suc had.cursor;
  breaks = breaks_before had.cursor had.breaks ++ map (λ at. at + 1) (breaks_behind had.cursor had.breaks);
  choices = choices_before had.cursor had.choices ++ map (choice_on 1) (choices_behind had.cursor had.choices);
}

-- without the cell at a place: the breaks on its two sides go, and so does a choice that covers it
abbrev pub without_cell : ℕ → Buffer → Buffer
without_cell place had = record had {
  cells = take place had.cells ++ drop (suc place) had.cells;
  breaks = breaks_before place had.breaks ++ map (λ at. at - 1) (breaks_behind (suc place) had.breaks);
  choices = choices_before place had.choices ++ map (choice_back 1) (choices_behind (suc place) had.choices);
}

-- without the cell at the cursor
unfoldable pub deleted : Buffer → Buffer
deleted had = without_cell had.cursor had

-- without the cell before the cursor, which moves back by one
unfoldable pub backspaced : Buffer → Buffer
backspaced had = record (without_cell (had.cursor - 1) had) { cursor = had.cursor - 1 }

-- the cursor at a place
abbrev pub moved_to : ℕ → Buffer → Buffer
moved_to place had = record had { cursor = place }

-- a break may stand at the cursor: there are syllables on both sides
abbrev pub can_break : Buffer → Bool
can_break buffer = is_between_sounds buffer.cells buffer.cursor

-- there is a break at the place
abbrev pub has_break : List ℕ → ℕ → Bool
has_break breaks place = list_any (λ at. at == place) breaks

-- the place is strictly inside the choice
abbrev pub has_inside : ℕ → Choice → Bool
has_inside place choice = nat_lt choice.start place && nat_lt place (choice_end choice)

-- with a break at the cursor, which no choice has strictly inside then
abbrev pub broken : Buffer → Buffer
broken had = record had {
  breaks = breaks_before had.cursor had.breaks ++ (had.cursor ∷ breaks_behind had.cursor had.breaks);
  choices = filter (λ choice. not (has_inside had.cursor choice)) had.choices;
}

-- without the break at the cursor
abbrev pub mended : Buffer → Buffer
mended had = record had { breaks = filter (λ at. not (at == had.cursor)) had.breaks }

-- a break at the cursor where there was none, and none where there was one
unfoldable pub break_toggled : Buffer → Buffer
break_toggled had = if has_break had.breaks had.cursor then mended had else broken had

-- with a choice more; the choices that have a cell of it go
unfoldable pub chosen : Choice → Buffer → Buffer
chosen choice had = record had {
  choices = choices_before choice.start had.choices ++ (choice ∷ choices_behind (choice_end choice) had.choices);
}

-- without its first cells: the breaks up to their end go, and so do their choices; the cursor moves along, and not below 0
unfoldable pub released : ℕ → Buffer → Buffer
released count had = record had {
  cells = drop count had.cells;
  cursor = had.cursor - count;
  breaks = map (λ at. at - count) (breaks_behind count had.breaks);
  choices = map (choice_back count) (choices_behind count had.choices);
}

-- with nothing in it
abbrev pub emptied : Buffer → Buffer
emptied had = record had { cells = []; cursor = 0; breaks = []; choices = [] }
