-- The children of a node stand together, and their codes rise.
use Rattle.std.proofs.Common.{sym, subst, arith}
use Rattle.chew_trie_read.specs.Search.{IsNode}
use Rattle.chew_trie_read.proofs.Finding.{child_none, child_some, child_within}
use Rattle.chew_trie_read.proofs.Places.{children_within}
use Rattle.chew_trie_read.proofs.find.child_of.Goals as goal

pub overflow_add-node-inside : goal.overflow_add-node-inside
overflow_add-node-inside c =
    let node = subst (IsNode c.args.image.now c.args.i) (sym c.node.view_is) c.node-node.ensures in
    let within = children_within c.args.image.now c.args.i _ node in
    let few = c.nodes-nodes.ensures.few in
    let count = c.nodes-nodes.ensures.value in
    omega arith

pub search-requires-clause-within : goal.search-requires-clause-within
search-requires-clause-within c =
    let node = subst (IsNode c.args.image.now c.args.i) (sym c.node.view_is) c.node-node.ensures in
    children_within c.args.image.now c.args.i _ node

pub returns-clause-within : goal.returns-clause-within
returns-clause-within c =
    let node = subst (IsNode c.args.image.now c.args.i) (sym c.node.view_is) c.node-node.ensures in
    child_within c.args.image.now c.args.i _ c.search.result node c.search.ensures.upto

pub returns-clause-some : goal.returns-clause-some
returns-clause-some c =
    let node = subst (IsNode c.args.image.now c.args.i) (sym c.node.view_is) c.node-node.ensures in
    child_some c.args.image.now c.args.i c.args.code _ c.search.result node c.search.ensures.from c.search.ensures.upto c.search.ensures.some

pub returns-clause-none : goal.returns-clause-none
returns-clause-none c =
    let node = subst (IsNode c.args.image.now c.args.i) (sym c.node.view_is) c.node-node.ensures in
    child_none c.args.image.now c.args.i c.args.code _ c.search.result node c.search.ensures.none
