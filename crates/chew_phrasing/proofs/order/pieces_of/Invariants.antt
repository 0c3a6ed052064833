-- The pieces so far, and those to come, are the order's.
use Rattle.std.proofs.Common.{◌≤◌, List}
use Rattle.chew_spec_phrasing.specs.Usable.{Piece}
use Rattle.chew_phrasing.specs.Grid.{piece_in}
use Rattle.chew_phrasing.specs.Table.{Stands}
use Rattle.chew_phrasing.proofs.Walking.{Remains}
use Rattle.chew_phrasing.proofs.order.pieces_of.Given as goal

abbrev pub invariant-loop-left : goal.invariant-loop-left
invariant-loop-left l = record {
  within : l.left ≤ l.grid.cells;
  remains : (order : List Piece) → Stands (piece_in l.grid) l.levels l.grid.cells l.grid.cells l.fn.entry order → Remains (piece_in l.grid) l.levels l.grid.cells l.left l.entry l.pieces.items order;
}

abbrev pub decreases-loop-left : goal.decreases-loop-left
decreases-loop-left l = l.left
