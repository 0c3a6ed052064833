-- What is left of a map and of the marks over it, where both are gone over side by side.
use Rattle.std.specs.Prelude.{◌≡◌, ◌+◌, ◌<◌, true, List, [], ◌∷◌, length, Option, Some, None, IfNone, IfSome}
use Rattle.std.specs.List.{list_all}
use Rattle.std.specs.declared.cmp.Ordering.{Ordering}
use Rattle.std.specs.declared.cmp.Ordering.TheVariants.{Greater}
use Rattle.chew_spec_syllable.specs.Row.{Row, is_row, pair_cmp}
use Rattle.chew_spec_dictionary.specs.Dictionary.{is_map}
use Rattle.chew_spec_layers.specs.Mark.{Marked, is_layer, is_proper_mark}
use Rattle.chew_spec_layers.specs.Overlay.{overlay}

-- rows of a map, and marks over it
pub record Rest : Type 0 where
  pub rows : List Row
  pub marks : List Marked

-- the rows of both together
abbrev pub rows_together : Rest → List Row
rows_together left = overlay left.rows left.marks

-- the rows are a map, and the marks are a layer; each row and each mark is in range
pub record IsSound (left : Rest) : Type 0 where
  pub map : is_map left.rows ≡ true
  pub rows : list_all is_row left.rows ≡ true
  pub layer : is_layer left.marks ≡ true
  pub proper : list_all is_proper_mark left.marks ≡ true

-- what was read ahead and what follows it; where nothing was read, nothing follows
abbrev pub ahead : {X : Type 0} → Option X → List X → List X
ahead None rest = []
ahead (Some first) rest = first ∷ rest

-- a row, where there is one, before others
abbrev pub before : Option Row → List Row → List Row
before None rows = rows
before (Some row) rows = row ∷ rows

-- how the first of the rows stands to a mark in image order; where no row is left, the mark comes first
abbrev pub first_cmp : List Row → Marked → Ordering
first_cmp [] marked = Greater
first_cmp (row ∷ rows) marked = pair_cmp row.key row.phrase marked.key marked.phrase

-- a step left out a row or a mark, and gave the first row of both together, or left the rows as they were
pub record IsStep (old : Rest) (given : Option Row) (new : Rest) : Type 0 where
  pub some : IfSome given (λ row. rows_together old ≡ row ∷ rows_together new)
  pub none : IfNone given (rows_together new ≡ rows_together old)
  pub fewer : length new.rows + length new.marks < length old.rows + length old.marks
