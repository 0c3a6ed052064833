-- One node more, and its rows.
use Rattle.std.proofs.Common.{◌≡◌, ℕ, ◌+◌, ◌++◌, List, [], ◌∷◌, ◌∙◌, sym, ap, subst, rules, arith}
use Rattle.std.proofs.lemmas.List.{length_push}
use Rattle.chew_spec_image.specs.Fields.{Node, node_at}
use Rattle.chew_spec_image.specs.ReadNodes.{Due, NodesRead, due_under, node_fault, past_node}
use Rattle.chew_trie_image.specs.Walk.{fault_ahead, fault_behind}
use Rattle.chew_trie_image.proofs.Children.{node_passes}
use Rattle.chew_trie_image.proofs.walk.check_child.Goals as goal

pub returns-clause-ok : goal.returns-clause-ok
returns-clause-ok c key later left long =
    let read : c.node_at-node.result ≡ node_at c.args.parts.now.bytes.now c.args.walk.now.nodes.place = search rules in
    let rows : c.node.inside.rows ≡ (node_at c.args.parts.now.bytes.now c.args.walk.now.nodes.place).rows = ap (λ (n : Node). n.rows) (c.node.view_is ∙ read) in
    let result_rows = ap (λ (n : Node). n.rows) read in
    let none = ap (λ (len : ℕ). node_fault c.args.parts.now.counts len c.args.first c.args.walk.now.nodes (node_at c.args.parts.now.bytes.now c.args.walk.now.nodes.place)) long
    ∙ ap (node_fault c.args.parts.now.counts c.args.len c.args.first c.args.walk.now.nodes) (sym read) ∙ c.in_ok-check_node.ensures.ok in
    let same : (more : List Due) → _ = λ (more : List Due).
    subst (λ (n : ℕ). fault_behind c.args.parts.now.bytes.now c.args.parts.now.counts c.args.walk.now.nodes.next_row c.args.walk.now.fault c.args.walk.now.rows
    (due_under (key ++ (node_at c.args.parts.now.bytes.now c.args.walk.now.nodes.place).code ∷ []) n ++ more)
    ≡ fault_behind c.args.parts.now.bytes.now c.args.parts.now.counts (c.args.walk.now.nodes.next_row + n) c.check_rows_behind.new.walk.fault c.check_rows_behind.new.walk.rows more) rows
    (c.check_rows_behind.ensures.same (key ++ (node_at c.args.parts.now.bytes.now c.args.walk.now.nodes.place).code ∷ []) more c.args.walk.now.nodes.next_row
    (let l = length_push key (node_at c.args.parts.now.bytes.now c.args.walk.now.nodes.place).code in omega arith)
    (let few = c.in_ok-check_node.ensures.rows in omega arith)) in
    let after : c.check_rows_behind.new.walk.nodes ≡ past_node c.args.walk.now.nodes (node_at c.args.parts.now.bytes.now c.args.walk.now.nodes.place) =
    c.check_rows_behind.ensures.nodes ∙ c.past-walk.ensures ∙ ap (past_node c.args.walk.now.nodes) read in
    node_passes c.args.parts.now.bytes.now c.args.parts.now.counts c.args.walk.now.nodes c.args.walk.now.fault c.check_rows_behind.new.walk.fault c.args.walk.now.rows c.check_rows_behind.new.walk.rows
    (record { key = key; first = c.args.first }) later left none same
    ∙ ap (λ (nodes : NodesRead). fault_ahead c.args.parts.now.bytes.now c.args.parts.now.counts nodes c.check_rows_behind.new.walk.fault c.check_rows_behind.new.walk.rows
    (later ++ (due_under (key ++ (node_at c.args.parts.now.bytes.now c.args.walk.now.nodes.place).code ∷ []) (node_at c.args.parts.now.bytes.now c.args.walk.now.nodes.place).children ++ [])) left) (sym after)
