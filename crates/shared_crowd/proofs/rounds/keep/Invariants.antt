-- The keeper's pass stays of this dictionary, with the number 0.
use Rattle.std.proofs.Common.{◌≡◌}
use Rattle.shared_crowd.proofs.rounds.keep.Given as goal

abbrev pub invariant-keeping : goal.invariant-keeping
invariant-keeping g l = (l.kept.pass.cell ≡ l.shared) × (l.kept.pass.who ≡ 0)
