-- The passes are of this dictionary, those that are left and those that were taken.
use Rattle.std.proofs.Common.{◌≡◌, All, length}
use Rattle.shared_crowd.proofs.heard.part.Given as goal

abbrev pub decreases-parting : goal.decreases-parting
decreases-parting l = length l.contexts.items

abbrev pub invariant-parting : goal.invariant-parting
invariant-parting l = record {
  left : All (λ t. t.pass.cell ≡ l.shared) l.contexts.items;
  taken : All (λ p. p.cell ≡ l.shared) l.passes.items;
}
