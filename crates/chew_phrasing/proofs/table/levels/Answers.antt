-- One level more.
use Rattle.std.proofs.Common.{subst, arith}
use Rattle.chew_phrasing.specs.Grid.{piece_in}
use Rattle.chew_phrasing.specs.Table.{IsLevel}
use Rattle.chew_phrasing.proofs.Filling.{table_at_end, table_next}
use Rattle.chew_phrasing.proofs.table.levels.Goals as goal

pub loop-left-init : goal.loop-left-init
loop-left-init c = record {
  count = omega (arith, c.in_ok-push.ensures.len, c.in_ok-levels.ensures.len);
  table = table_at_end (piece_in c.args.grid.now) c.args.grid.now.cells c.in_ok-levels.levels.items c.push.new.self.items c.in_ok-at_end.field-0
      c.in_ok-levels.ensures.items c.in_ok-push.ensures.items c.in_ok-at_end.ensures;
}

pub loop-left-preserved : goal.loop-left-preserved
loop-left-preserved c = record {
  count = omega (arith, c.in_ok-push-2.ensures.len, c.loop-left.invariant.count);
  table = table_next (piece_in c.args.grid.now) c.args.grid.now.cells c.loop-left.left c.loop-left.levels.items c.push-in-loop-left.new.self.items c.in_ok-level.level
      c.loop-left.invariant.count c.in_ok-push-2.ensures.items
      (subst (λ levels. IsLevel (piece_in c.args.grid.now) levels c.args.grid.now.cells c.loop-left.left c.in_ok-level.level) c.deref.ensures.value c.in_ok-level.ensures)
      c.loop-left.invariant.table;
}
