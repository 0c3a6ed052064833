-- Each law is a lemma.
use Rattle.chew_spec_dictionary.proofs.Growing.{grown-all, grown-calls, grown-each, grown-front, grown-replies}
use Rattle.chew_spec_dictionary.proofs.laws.growth.histories_grown.Goals as goal

pub returns-clause-front : goal.returns-clause-front
returns-clause-front c = grown-front

pub returns-clause-calls : goal.returns-clause-calls
returns-clause-calls c = grown-calls

pub returns-clause-replies : goal.returns-clause-replies
returns-clause-replies c = grown-replies

pub returns-clause-each : goal.returns-clause-each
returns-clause-each c = grown-each

pub returns-clause-all : goal.returns-clause-all
returns-clause-all c = grown-all
