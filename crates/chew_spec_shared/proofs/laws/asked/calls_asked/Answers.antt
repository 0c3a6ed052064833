-- Each law is a lemma.
use Rattle.chew_spec_shared.proofs.Asked.{asked-front, asked-last, asked-longer, asked-made, asked-own}
use Rattle.chew_spec_shared.proofs.laws.asked.calls_asked.Goals as goal

pub returns-clause-made : goal.returns-clause-made
returns-clause-made c = asked-made

pub returns-clause-own : goal.returns-clause-own
returns-clause-own c = asked-own

pub returns-clause-front : goal.returns-clause-front
returns-clause-front c = asked-front

pub returns-clause-longer : goal.returns-clause-longer
returns-clause-longer c = asked-longer

pub returns-clause-last : goal.returns-clause-last
returns-clause-last c = asked-last
