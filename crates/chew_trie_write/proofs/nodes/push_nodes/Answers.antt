-- One node after the other.
use Rattle.std.proofs.Common.{ℕ, ◌+◌, ◌-◌, ◌++◌, List, [], drop, ap, sym, arith}
use Rattle.std.specs.List.{flat_map, prefix_len}
use Rattle.chew_spec_image.proofs.Bounds.{child_count_few}
use Rattle.chew_spec_dictionary.specs.System.{is_under}
use Rattle.chew_spec_image.specs.Fields.{node_bytes}
use Rattle.chew_spec_image.specs.Image.{nodes_from}
use Rattle.chew_spec_image.specs.NodeKeys.{is_child}
use Rattle.chew_trie_write.proofs.NodeSteps.{key_step, keys_few, left_more, node_written, root_step}
use Rattle.chew_trie_write.proofs.nodes.push_nodes.Goals as goal

pub push_node-requires-clause-keys : goal.push_node-requires-clause-keys
push_node-requires-clause-keys c = let s = root_step c.args.rows.now c.args.keys.now c.requires.keys c.requires.map c.requires.each in let n = s.count in let w = s.keys_within in omega arith

pub push_node-requires-clause-rows : goal.push_node-requires-clause-rows
push_node-requires-clause-rows c = let s = root_step c.args.rows.now c.args.keys.now c.requires.keys c.requires.map c.requires.each in let n = s.own in let w = s.rows_within in omega arith

pub push_node-requires-clause-children : goal.push_node-requires-clause-children
push_node-requires-clause-children c =
    let s = root_step c.args.rows.now c.args.keys.now c.requires.keys c.requires.map c.requires.each in let n = s.count in
    let few = child_count_few c.args.rows.now [] c.requires.each in omega arith

pub push_node-requires-clause-few_keys : goal.push_node-requires-clause-few_keys
push_node-requires-clause-few_keys c = let few = keys_few c.args.rows.now c.args.keys.now c.requires.keys c.requires.each c.requires.few in omega arith

pub loop-key-init : goal.loop-key-init
loop-key-init c =
    let s = root_step c.args.rows.now c.args.keys.now c.requires.keys c.requires.map c.requires.each in
    let done = node_written c.args.rows.now c.args.keys.now c.args.out.now.items c.args.out.now.items c.push_node.new.out.items [] c.args.keys.now 1 0
    (prefix_len (is_child []) c.args.keys.now) (prefix_len (is_under []) c.args.rows.now) c.push_node.new.at.child c.push_node.new.at.row
    s s.count s.own (ap (λ (l : List (List ℕ)). c.args.out.now.items ++ flat_map node_bytes (nodes_from c.args.rows.now 1 0 l)) (sym c.requires.keys))
    c.in_ok-push_node.ensures.ok c.in_ok-push_node.ensures.child c.in_ok-push_node.ensures.row in
    record { at = done.0; items = done.1 }

pub push_node-requires-in-loop-key-clause-keys : goal.push_node-requires-in-loop-key-clause-keys
push_node-requires-in-loop-key-clause-keys c =
    let s = key_step c.args.rows.now c.args.keys.now c.key-item.result c.list.result.now c.loop-key.key-index c.loop-key.at.child c.loop-key.at.row c.requires.keys c.loop-key-test.true c.key-item.is c.list.ensures.value c.loop-key.invariant.at in
    let n = s.count in let w = s.keys_within in omega arith

pub push_node-requires-in-loop-key-clause-rows : goal.push_node-requires-in-loop-key-clause-rows
push_node-requires-in-loop-key-clause-rows c =
    let s = key_step c.args.rows.now c.args.keys.now c.key-item.result c.list.result.now c.loop-key.key-index c.loop-key.at.child c.loop-key.at.row c.requires.keys c.loop-key-test.true c.key-item.is c.list.ensures.value c.loop-key.invariant.at in
    let n = s.own in let w = s.rows_within in omega arith

pub push_node-requires-in-loop-key-clause-children : goal.push_node-requires-in-loop-key-clause-children
push_node-requires-in-loop-key-clause-children c =
    let s = key_step c.args.rows.now c.args.keys.now c.key-item.result c.list.result.now c.loop-key.key-index c.loop-key.at.child c.loop-key.at.row c.requires.keys c.loop-key-test.true c.key-item.is c.list.ensures.value c.loop-key.invariant.at in
    let n = s.count in let few = child_count_few c.args.rows.now c.list.result.now c.requires.each in omega arith

pub push_node-requires-in-loop-key-clause-few_keys : goal.push_node-requires-in-loop-key-clause-few_keys
push_node-requires-in-loop-key-clause-few_keys c = let few = keys_few c.args.rows.now c.args.keys.now c.requires.keys c.requires.each c.requires.few in omega arith

pub loop-key-preserved : goal.loop-key-preserved
loop-key-preserved c =
    let s = key_step c.args.rows.now c.args.keys.now c.key-item.result c.list.result.now c.loop-key.key-index c.loop-key.at.child c.loop-key.at.row c.requires.keys c.loop-key-test.true c.key-item.is c.list.ensures.value c.loop-key.invariant.at in
    let done = node_written c.args.rows.now c.args.keys.now c.args.out.now.items c.loop-key.out.items c.push_node-in-loop-key.new.out.items c.list.result.now (drop (c.loop-key.key-index + 1) c.args.keys.now)
    c.loop-key.at.child c.loop-key.at.row
    (prefix_len (is_child c.list.result.now) (drop (c.loop-key.at.child - 1) c.args.keys.now)) (prefix_len (is_under c.list.result.now) (drop c.loop-key.at.row c.args.rows.now))
    c.push_node-in-loop-key.new.at.child c.push_node-in-loop-key.new.at.row
    s s.count s.own
    (left_more c.args.rows.now c.args.keys.now c.key-item.result c.list.result.now c.args.out.now.items c.loop-key.out.items c.loop-key.key-index c.loop-key.at.child c.loop-key.at.row
    c.loop-key-test.true c.key-item.is c.list.ensures.value c.loop-key.invariant.items)
    c.in_ok-push_node-2.ensures.ok c.in_ok-push_node-2.ensures.child c.in_ok-push_node-2.ensures.row in
    record { at = done.0; items = done.1 }
