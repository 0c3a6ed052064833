-- A cell that threads share, and the passes with which they enter it.
use Rattle.std.specs.Prelude.{ℕ, zero, suc, List, [], ◌∷◌, ◌++◌}
use Rattle.atomic_table.specs.Seated.{TableId}
use Rattle.chew_spec_dictionary.specs.Dictionary.{Dictionary}
use Rattle.chew_spec_dictionary.specs.History.{Entry}

-- which cell it is: its table, the dictionary that its history begins with, and for how many passes it was made
pub record Cell : Type 0 where
  pub table : TableId
  pub start : Dictionary
  pub seats : ℕ

-- a pass: the cell that it is of, its number, and the beginning of the history that its holder has seen
pub record Pass : Type 0 where
  pub cell : Cell
  pub who : ℕ
  pub seen : List Entry

-- the pass of a number before its holder has seen anything
abbrev pub fresh_pass : Cell → ℕ → Pass
fresh_pass cell who = record { cell = cell; who = who; seen = [] }

-- the first passes of a new cell, in the order of their numbers
abbrev pub new_passes : Cell → ℕ → List Pass
new_passes cell zero = []
new_passes cell (suc count) = new_passes cell count ++ fresh_pass cell count ∷ []
