use Rattle.std.proofs.Common.{◌≡◌, ◌++◌, ◌≤◌, drop, length, map}
use Rattle.chew_spec_preedit.specs.PlacedRun.{leading_codes}
use Rattle.chew_preedit.specs.CellItem.{cell_of}
use Rattle.chew_preedit.proofs.runs.leading_syllables.Given as goal

abbrev pub invariant-loop-cell : goal.invariant-loop-cell
invariant-loop-cell l = record {
  same : l.syllables.items ++ leading_codes (map cell_of (drop l.cell-index l.cells)) ≡ leading_codes (map cell_of l.cells);
  few : length l.syllables.items ≤ l.cell-index;
}
