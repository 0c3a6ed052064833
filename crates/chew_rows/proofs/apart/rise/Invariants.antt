-- Each row so far comes before the next.
use Rattle.std.proofs.Common.{ℕ, ◌+◌, ◌<◌}
use Rattle.chew_rows.proofs.Rising.{IsBeforeNext, lent_rows}
use Rattle.chew_rows.proofs.apart.rise.Given as goal

abbrev pub invariant-loop-place : goal.invariant-loop-place
invariant-loop-place l = (k : ℕ) → k + 1 < l.place → IsBeforeNext (lent_rows l.rows) k
