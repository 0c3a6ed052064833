-- No pass is taken in yet; and then one more.
use Rattle.std.proofs.Common.{refl, ◌∙◌}
use Rattle.chew_cell.proofs.Gathering.{gathering-none, gathering-more, sight-of-seat}
use Rattle.chew_cell.proofs.cell.Cell.gather.Goals as goal

pub gathering-init : goal.gathering-init
gathering-init g c = (refl, gathering-none c.args.self.now c.args.passes.items c.args.seat.now.me c.requires.passes c.requires.idle)

pub gathering-preserved : goal.gathering-preserved
gathering-preserved g c = (
  c.join.ensures.cell ∙ c.gathering.invariant.0,
  gathering-more c.args.self.now c.args.passes.items c.args.seat.now.me c.gathering.passes.items c.pop.new.self.items c.in-Some.pass c.gathering.seat.me c.join.new.seat.me c.into_seat.result.me.0.sight
      c.gathering.invariant.1 c.in-Some.ensures.items
      (sight-of-seat c.pass.inside.badge.views c.into_seat.result.me.0 _ c.in-Some.pass c.into_seat.ensures.2 c.pass.invariant c.pass.view_is)
      c.join.ensures.both c.join.ensures.mine c.join.ensures.theirs,
)
