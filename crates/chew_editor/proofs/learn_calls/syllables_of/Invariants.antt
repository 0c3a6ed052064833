-- The syllables so far, and those to come.
use Rattle.std.proofs.Common.{◌≡◌, ◌++◌, ◌≤◌, drop, flat_map, length, map}
use Rattle.chew_spec_editor.specs.Learning.{code_in}
use Rattle.chew_preedit.specs.CellItem.{cell_of}
use Rattle.chew_editor.proofs.learn_calls.syllables_of.Given as goal

abbrev pub invariant-loop-cell : goal.invariant-loop-cell
invariant-loop-cell l = record {
  same : l.syllables.items ++ flat_map code_in (map cell_of (drop l.cell-index l.cells)) ≡ flat_map code_in (map cell_of l.cells);
  few : length l.syllables.items ≤ l.cell-index;
}
