-- Each law is a lemma.
use Rattle.chew_spec_dictionary.proofs.Shapes.{installed_most, waiting_between}
use Rattle.chew_spec_dictionary.proofs.laws.invariants.numbers_of_a_shape.Goals as goal

pub returns-clause-installed : goal.returns-clause-installed
returns-clause-installed c = installed_most

pub returns-clause-waiting : goal.returns-clause-waiting
returns-clause-waiting c = waiting_between
