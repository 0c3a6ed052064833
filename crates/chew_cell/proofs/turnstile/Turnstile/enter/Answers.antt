-- A ticket, a call and the value together are a turn.
use Rattle.std.proofs.Common.{ap}
use Rattle.chew_cell.proofs.Glue.{entered}
use Rattle.chew_cell.proofs.turnstile.Turnstile.enter.Goals as goal

pub take-requires-clause-carries : goal.take-requires-clause-carries
take-requires-clause-carries g c κs within = (c.wait_for_call.ensures.called.value, ap (λ m. m.1) c.wait_for_call.ensures.called.now)

pub returns-clause-entered : goal.returns-clause-entered
returns-clause-entered g c = entered g.S.Chronicle.entries g.S.Chronicle.start _ _ _ _ _ c.draw-ticket.ensures.same c.wait_for_call.ensures.called c.take.ensures.value c.take.ensures.taken
