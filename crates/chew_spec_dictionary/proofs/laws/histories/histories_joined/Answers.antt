-- Each law is a lemma.
use Rattle.chew_spec_dictionary.proofs.Histories.{after_joined, replies_joined, legal_joined}
use Rattle.chew_spec_dictionary.proofs.laws.histories.histories_joined.Goals as goal

pub returns-clause-after : goal.returns-clause-after
returns-clause-after c = after_joined

pub returns-clause-replies : goal.returns-clause-replies
returns-clause-replies c = replies_joined

pub returns-clause-legal : goal.returns-clause-legal
returns-clause-legal c = legal_joined
