-- Each law is a lemma.
use Rattle.chew_spec_dictionary.proofs.Order.{orders_alike, sorted_is_order}
use Rattle.chew_spec_dictionary.proofs.laws.order.one_list_in_order.Goals as goal

pub returns-clause-same : goal.returns-clause-same
returns-clause-same g c = orders_alike

pub returns-clause-only : goal.returns-clause-only
returns-clause-only g c = sorted_is_order
