-- The keys decide, and else the phrases.
use Rattle.std.proofs.Common.{rules}
use Rattle.chew_buffer.proofs.Orders.{pairs_of_one_key, pairs_of_two_keys}
use Rattle.chew_buffer.proofs.order.pair_order.Goals as goal

pub returns-in-Equal : goal.returns-in-Equal
returns-in-Equal c = search (rules, pairs_of_one_key)

pub returns-in_default : goal.returns-in_default
returns-in_default c = search (rules, pairs_of_two_keys)
