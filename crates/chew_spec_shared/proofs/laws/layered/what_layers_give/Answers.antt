-- Each law is a lemma.
use Rattle.chew_spec_shared.proofs.Layered.{merge-held, need-held, snapshot-held}
use Rattle.chew_spec_shared.proofs.laws.layered.what_layers_give.Goals as goal

pub returns-clause-snapshot : goal.returns-clause-snapshot
returns-clause-snapshot c = snapshot-held

pub returns-clause-merge : goal.returns-clause-merge
returns-clause-merge c = merge-held

pub returns-clause-need : goal.returns-clause-need
returns-clause-need c = need-held
