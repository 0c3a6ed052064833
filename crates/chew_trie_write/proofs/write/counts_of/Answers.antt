-- There are at most 11 nodes a row.
use Rattle.std.proofs.Common.{arith}
use Rattle.chew_trie_write.proofs.NodeSteps.{keys_few}
use Rattle.chew_trie_write.proofs.write.counts_of.Goals as goal

pub overflow_cast-result-2 : goal.overflow_cast-result-2
overflow_cast-result-2 c = let few = keys_few c.args.rows.now c.args.keys.now c.requires.keys c.requires.each c.requires.few in omega arith

pub overflow_add-result : goal.overflow_add-result
overflow_add-result c = let few = keys_few c.args.rows.now c.args.keys.now c.requires.keys c.requires.each c.requires.few in omega arith
