-- The passes that are left are of this dictionary, and so are those of the contexts, which are none of a keeper.
use Rattle.std.proofs.Common.{◌≡◌, ◌≢◌, All, length}
use Rattle.shared_crowd.proofs.contexts.beginners.Given as goal

abbrev pub decreases-beginning : goal.decreases-beginning
decreases-beginning l = length l.passes.items

abbrev pub invariant-beginning : goal.invariant-beginning
invariant-beginning l = record {
  passes : All (λ p. p.cell ≡ l.shared) l.passes.items;
  contexts : All (λ t. (t.pass.cell ≡ l.shared) × (t.pass.who ≢ 0)) l.contexts.items;
}
