-- Each law is a lemma.
use Rattle.chew_spec_dictionary.proofs.Growing.{front-itself, front-longer, front-over}
use Rattle.chew_spec_dictionary.proofs.laws.growth.fronts_of_lists.Goals as goal

pub returns-clause-itself : goal.returns-clause-itself
returns-clause-itself g c = front-itself

pub returns-clause-longer : goal.returns-clause-longer
returns-clause-longer g c = front-longer

pub returns-clause-over : goal.returns-clause-over
returns-clause-over g c = front-over
