-- Each law is a lemma.
use Rattle.chew_spec_dictionary.proofs.Pairs.{other_pair, put_found, put_others, without_gone, without_others}
use Rattle.chew_spec_dictionary.proofs.laws.pairs.one_pair_changes.Goals as goal

pub returns-clause-put : goal.returns-clause-put
returns-clause-put c = put_found

pub returns-clause-put_others : goal.returns-clause-put_others
returns-clause-put_others c row rows key phrase other = put_others row rows key phrase (other_pair row key phrase other)

pub returns-clause-gone : goal.returns-clause-gone
returns-clause-gone c = without_gone

pub returns-clause-gone_others : goal.returns-clause-gone_others
returns-clause-gone_others c = without_others
