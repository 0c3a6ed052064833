-- The characters so far, and those of the cells to come, are all.
use Rattle.std.proofs.Common.{◌≡◌, ◌++◌, drop, map}
use Rattle.chew_spec_preedit.specs.ShownText.{characters_from}
use Rattle.chew_preedit.specs.CellItem.{cell_of}
use Rattle.chew_editor.proofs.characters.characters.Given as goal

abbrev pub invariant-loop-place : goal.invariant-loop-place
invariant-loop-place l =
    l.characters.items ++ characters_from l.pieces l.place (map cell_of (drop l.place l.cells)) ≡ characters_from l.pieces 0 (map cell_of l.cells)
