-- The best of the entries so far.
use Rattle.std.proofs.Common.{take}
use Rattle.chew_phrasing.specs.Grid.{piece_in}
use Rattle.chew_phrasing.specs.Table.{IsOfRun, IsTop}
use Rattle.chew_phrasing.proofs.ranking.best_entry.Given as goal

abbrev pub invariant-loop-entry : goal.invariant-loop-entry
invariant-loop-entry l = record {
  one : IsOfRun (piece_in l.grid) l.levels l.grid.cells l.best;
  top : IsTop (piece_in l.grid) l.levels l.grid.cells (take l.entry-index l.entries) l.best;
}
