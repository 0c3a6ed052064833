-- Each law is a lemma.
use Rattle.chew_spec_dictionary.proofs.Hits.{listed_within, interval_listed}
use Rattle.chew_spec_dictionary.proofs.laws.hits.intervals_of_a_run.Goals as goal

pub returns-clause-within : goal.returns-clause-within
returns-clause-within c = listed_within

pub returns-clause-all : goal.returns-clause-all
returns-clause-all c = interval_listed
