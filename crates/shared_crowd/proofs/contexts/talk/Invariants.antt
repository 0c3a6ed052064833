-- The pass stays of this dictionary, and keeps its number.
use Rattle.std.proofs.Common.{◌≡◌}
use Rattle.shared_crowd.proofs.contexts.talk.Given as goal

abbrev pub invariant-talking : goal.invariant-talking
invariant-talking g l = (l.context.pass.cell ≡ l.shared) × (l.context.pass.who ≡ l.initial.context.pass.who)
