-- Each law is a lemma.
use Rattle.chew_spec_shared.proofs.Waiting.{installed-kept, merge-kept, waiting-kept}
use Rattle.chew_spec_shared.proofs.laws.waiting.what_goes_on_waiting.Goals as goal

pub returns-clause-waiting : goal.returns-clause-waiting
returns-clause-waiting c = waiting-kept

pub returns-clause-installed : goal.returns-clause-installed
returns-clause-installed c = installed-kept

pub returns-clause-merge : goal.returns-clause-merge
returns-clause-merge c = λ start seen history number rows legal has m. merge-kept start seen history legal has number rows m
