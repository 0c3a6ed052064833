-- The pass stays of this cell, and keeps its number.
use Rattle.std.proofs.Common.{◌≡◌}
use Rattle.chew_tests_cell.proofs.threads.call_all.Given as goal

abbrev pub invariant-calling : goal.invariant-calling
invariant-calling g l = (l.pass.cell ≡ l.cell) × (l.pass.who ≡ l.initial.pass.who)
