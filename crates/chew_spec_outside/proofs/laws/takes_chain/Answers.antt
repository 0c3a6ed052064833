-- By the lemmas on contents.
use Rattle.std.specs.Prelude.{refl}
use Rattle.chew_spec_outside.proofs.Contents.{takes-chain}
use Rattle.chew_spec_outside.proofs.laws.takes_chain.Goals as goal

pub returns-clause-more : goal.returns-clause-more
returns-clause-more c = λ before after text done n takes. takes-chain before _ after text done n refl takes
