-- Each row so far is below the next one.
use Rattle.slot_writer.proofs.Neighbours.{Neighbours}
use Rattle.slot_writer.proofs.order.rises.Given as goal

abbrev pub invariant-loop-i : goal.invariant-loop-i
invariant-loop-i l = Neighbours l.rows l.i
