-- By the lemma on counts.
use Rattle.chew_spec_outside.proofs.Counts.{causes-chain}
use Rattle.chew_spec_outside.proofs.laws.counts_chain.Goals as goal

pub returns-clause-causes : goal.returns-clause-causes
returns-clause-causes c = λ first middle last one other p q. causes-chain p q
