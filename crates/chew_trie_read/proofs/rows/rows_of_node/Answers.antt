-- The rows of a node stand together.
use Rattle.std.proofs.Common.{refl, sym, subst, arith}
use Rattle.chew_trie_read.specs.Search.{IsNode, key_at}
use Rattle.chew_trie_read.proofs.Together.{found_rows, found_within}
use Rattle.chew_trie_read.proofs.rows.rows_of_node.Goals as goal

pub overflow_add-result : goal.overflow_add-result
overflow_add-result c =
    let node = subst (IsNode c.args.image.now c.args.i) (sym c.node.view_is) c.node-node.ensures in
    let within = found_within c.args.image.now c.args.i _ c.rows-rows.ensures.map c.rows-rows.ensures.each node in
    let few = c.rows-rows.ensures.few in
    let count = c.rows-rows.ensures.value in
    omega arith

pub returns-clause-end : goal.returns-clause-end
returns-clause-end c =
    let node = subst (IsNode c.args.image.now c.args.i) (sym c.node.view_is) c.node-node.ensures in
    found_within c.args.image.now c.args.i _ c.rows-rows.ensures.map c.rows-rows.ensures.each node

pub returns-clause-value : goal.returns-clause-value
returns-clause-value c =
    let node = subst (IsNode c.args.image.now c.args.i) (sym c.node.view_is) c.node-node.ensures in
    found_rows c.args.image.now (key_at c.args.image.now c.args.i) c.args.i _ c.rows-rows.ensures.map c.rows-rows.ensures.each node refl
