use Rattle.std.proofs.Common.{◌≡◌, ◌*◌, ◌-◌, ◌++◌, ◌≤◌, drop, length, map}
use Rattle.chew_spec_preedit.specs.PlacedRun.{runs_from}
use Rattle.chew_preedit.specs.CellItem.{cell_of}
use Rattle.chew_preedit.proofs.runs.runs_of.Given as goal

abbrev pub invariant-loop-place : goal.invariant-loop-place
invariant-loop-place l = record {
  same : l.runs.items ++ runs_from l.place (drop l.place (map cell_of l.cells)) ≡ runs_from 0 (map cell_of l.cells);
  few : 2 * length l.runs.items ≤ l.place;
}

abbrev pub decreases-loop-place : goal.decreases-loop-place
decreases-loop-place l = length l.cells - l.place
