-- The node whose rows reach over the place.
use Rattle.std.proofs.Common.{arith}
use Rattle.chew_trie_read.proofs.Climbing.{row_of_node}
use Rattle.chew_trie_read.proofs.Finding.{root_within}
use Rattle.chew_trie_read.proofs.keys.node_of.Goals as goal

pub last_before-requires-clause-order : goal.last_before-requires-clause-order
last_before-requires-clause-order c = let some = root_within c.args.image.now in let count = c.nodes.ensures.value in omega arith

pub returns-clause-key : goal.returns-clause-key
returns-clause-key c =
    row_of_node c.args.image.now c.last_before.result c.args.place c.rows-rows.ensures.map c.rows-rows.ensures.each c.last_before.ensures.within c.requires c.last_before.ensures.from c.last_before.ensures.upto
