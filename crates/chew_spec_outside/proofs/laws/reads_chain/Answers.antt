-- By the lemmas on contents.
use Rattle.chew_spec_outside.proofs.Contents.{reads-chain, reads-gone, reads-lost}
use Rattle.chew_spec_outside.proofs.laws.reads_chain.Goals as goal

pub returns-clause-more : goal.returns-clause-more
returns-clause-more c = reads-chain

pub returns-clause-lost : goal.returns-clause-lost
returns-clause-lost c = reads-lost

pub returns-clause-gone : goal.returns-clause-gone
returns-clause-gone c = reads-gone
