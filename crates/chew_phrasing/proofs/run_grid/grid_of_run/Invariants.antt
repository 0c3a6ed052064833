-- The intervals so far are filled.
use Rattle.std.proofs.Common.{◌≡◌, [], All, length, take}
use Rattle.chew_spec_phrasing.specs.CombinedRows.{combined_hits}
use Rattle.chew_spec_phrasing.specs.Usable.{piece_at}
use Rattle.chew_phrasing.specs.FirstPlace.{IsKnown}
use Rattle.chew_phrasing.specs.Grid.{IsFilled}
use Rattle.chew_phrasing.proofs.run_grid.grid_of_run.Given as goal

abbrev pub invariant-loop-at : goal.invariant-loop-at
invariant-loop-at g l = record {
  cells : l.grid.cells ≡ length l.run;
  firsts : All (IsKnown (g.L.Lexicon.rows l.system)) l.firsts.items;
  filled : IsFilled (piece_at (combined_hits (g.L.Lexicon.rows l.system) l.run l.user) l.breaks l.choices) (piece_at [] l.breaks l.choices) (take l.at-index l.at-items) l.grid;
}
