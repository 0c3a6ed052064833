-- The law is a lemma.
use Rattle.chew_spec_shared.proofs.Needed.{one-need}
use Rattle.chew_spec_shared.proofs.laws.waiting.one_need.Goals as goal

pub returns : goal.returns
returns c = one-need
