-- The levels so far are a table.
use Rattle.std.proofs.Common.{◌≡◌, length}
use Rattle.chew_phrasing.specs.Grid.{piece_in}
use Rattle.chew_phrasing.specs.Table.{IsTable}
use Rattle.chew_phrasing.proofs.table.levels.Given as goal

abbrev pub invariant-loop-left : goal.invariant-loop-left
invariant-loop-left l = record {
  count : length l.levels.items ≡ l.left;
  table : IsTable (piece_in l.grid) l.grid.cells l.levels.items;
}
