-- The passes that were taken in behind the first one, and the value, which has the whole history.
use Rattle.std.proofs.Common.{subst}
use Rattle.chew_cell.specs.View.{Sight}
use Rattle.chew_cell.specs.Seats.{IsGathered}
use Rattle.chew_cell.proofs.Gathering.{all-seen, all-known, sight-of-seat}
use Rattle.chew_cell.proofs.cell.Cell.close.Goals as goal

pub returns-clause-seen : goal.returns-clause-seen
returns-clause-seen g c =
    let its = sight-of-seat c.first.inside.badge.views c.into_seat-seat.result.me.0 _ c.args.first c.into_seat-seat.ensures.2 c.first.invariant c.first.view_is in
    let gathered = subst (λ (s : Sight). IsGathered s c.args.others.items c.gather.new.seat.me.0.sight) its c.gather.ensures.gathered in
    all-seen c.args.first c.args.others.items c.gather.new.seat.me.0.sight (g.S.Chronicle.entries c.finish.result) gathered c.finish.ensures.seen

pub returns-clause-known : goal.returns-clause-known
returns-clause-known g c =
    let its = sight-of-seat c.first.inside.badge.views c.into_seat-seat.result.me.0 _ c.args.first c.into_seat-seat.ensures.2 c.first.invariant c.first.view_is in
    let gathered = subst (λ (s : Sight). IsGathered s c.args.others.items c.gather.new.seat.me.0.sight) its c.gather.ensures.gathered in
    all-known c.args.first c.args.others.items c.gather.new.seat.me.0.sight (g.S.Chronicle.entries c.finish.result) gathered c.finish.ensures.seen c.finish.ensures.numbers
