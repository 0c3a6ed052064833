-- The law is a lemma.
use Rattle.chew_spec_dictionary.proofs.HitOrder.{hits_rising}
use Rattle.chew_spec_dictionary.proofs.laws.hits.order_of_hits.Goals as goal

pub returns : goal.returns
returns c = record { rising = hits_rising }
