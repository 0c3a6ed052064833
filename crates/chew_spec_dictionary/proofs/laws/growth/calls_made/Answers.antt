-- Each law is a lemma.
use Rattle.chew_spec_dictionary.proofs.Growing.{made-nothing, made-own, made-others, made-over}
use Rattle.chew_spec_dictionary.proofs.laws.growth.calls_made.Goals as goal

pub returns-clause-nothing : goal.returns-clause-nothing
returns-clause-nothing c = made-nothing

pub returns-clause-own : goal.returns-clause-own
returns-clause-own c = made-own

pub returns-clause-others : goal.returns-clause-others
returns-clause-others c = made-others

pub returns-clause-over : goal.returns-clause-over
returns-clause-over c = made-over
