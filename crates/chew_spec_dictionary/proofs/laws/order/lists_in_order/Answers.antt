-- Each law is a lemma.
use Rattle.chew_spec_dictionary.proofs.Order.{order_sorted, order_permutes}
use Rattle.chew_spec_dictionary.proofs.laws.order.lists_in_order.Goals as goal

pub returns-clause-sorted : goal.returns-clause-sorted
returns-clause-sorted g c = order_sorted

pub returns-clause-permutation : goal.returns-clause-permutation
returns-clause-permutation g c = order_permutes
