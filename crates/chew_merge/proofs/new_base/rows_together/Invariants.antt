-- The rows so far, with those that are left, are all of them, and there is room for all.
use Rattle.std.proofs.Common.{◌≡◌, ◌≤◌, ◌++◌, length, vec_capacity}
use Rattle.chew_spec_layers.specs.Overlay.{overlay}
use Rattle.chew_merge.specs.Rest.{rows_together}
use Rattle.chew_merge.proofs.new_base.rows_together.Given as goal

abbrev pub invariant-loop-row : goal.invariant-loop-row
invariant-loop-row l = record {
  joined : l.rows.items ++ rows_together l.row-iterator ≡ overlay l.base l.layer;
  room : length (overlay l.base l.layer) ≤ vec_capacity l.rows;
}
