-- The rows so far are pieces, where they may be.
use Rattle.std.proofs.Common.{◌≡◌, take}
use Rattle.chew_spec_phrasing.specs.Usable.{piece_at}
use Rattle.chew_phrasing.specs.Grid.{IsGrid}
use Rattle.chew_phrasing.proofs.grid.Grid.of_rows.Given as goal

abbrev pub invariant-loop-row : goal.invariant-loop-row
invariant-loop-row l = record {
  cells : l.grid.cells ≡ l.fn.cells;
  grid : IsGrid (piece_at (take l.row-index l.rows) l.breaks l.choices) l.grid;
}
