-- The keeper's pass stays of this dictionary, with the number 0.
use Rattle.std.proofs.Common.{◌≡◌}
use Rattle.shared_speed.proofs.beside.keep.Given as goal

abbrev pub invariant-keeping : goal.invariant-keeping
invariant-keeping g l = (l.keeper.cell ≡ l.shared) × (l.keeper.who ≡ 0)
