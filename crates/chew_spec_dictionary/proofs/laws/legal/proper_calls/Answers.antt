-- Each law is a lemma.
use Rattle.chew_spec_dictionary.proofs.Legal.{hide-proper, learn-proper}
use Rattle.chew_spec_dictionary.proofs.laws.legal.proper_calls.Goals as goal

pub returns-clause-learn : goal.returns-clause-learn
returns-clause-learn c = learn-proper

pub returns-clause-hide : goal.returns-clause-hide
returns-clause-hide c = hide-proper
