-- Until it is called the seat stays as it was.
use Rattle.std.proofs.Common.{◌≡◌}
use Rattle.chew_cell.proofs.turnstile.Turnstile.wait_for_call.Given as goal

abbrev pub invariant-loop : goal.invariant-loop
invariant-loop g l = (l.seat.table_id ≡ l.initial.seat.table_id) × (l.seat.me ≡ l.initial.seat.me)
