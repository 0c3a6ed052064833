-- The rows so far are lent.
use Rattle.std.proofs.Common.{◌≡◌, map, take}
use Rattle.chew_rows.proofs.apart.are_apart.Given as goal

abbrev pub invariant-loop-row : goal.invariant-loop-row
invariant-loop-row l = map (λ row. row.now) l.lent.items ≡ take l.row-index l.rows
