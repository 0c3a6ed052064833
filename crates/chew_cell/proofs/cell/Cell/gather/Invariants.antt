-- The passes that are left, and those that were taken in from the end.
use Rattle.std.proofs.Common.{◌≡◌, length}
use Rattle.chew_cell.specs.Seats.{IsGathering}
use Rattle.chew_cell.proofs.cell.Cell.gather.Given as goal

abbrev pub invariant-gathering : goal.invariant-gathering
invariant-gathering g l = (l.seat.table_id ≡ l.initial.seat.table_id) × IsGathering l.self l.initial.passes.items l.initial.seat.me l.passes.items l.seat.me

abbrev pub decreases-gathering : goal.decreases-gathering
decreases-gathering g l = length l.passes.items
