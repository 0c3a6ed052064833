-- The law is a lemma.
use Rattle.chew_spec_dictionary.proofs.Ranges.{hits-in_range}
use Rattle.chew_spec_dictionary.proofs.laws.hits.hits_in_range.Goals as goal

pub returns : goal.returns
returns c = hits-in_range
