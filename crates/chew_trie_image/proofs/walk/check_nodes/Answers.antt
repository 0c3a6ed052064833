-- The nodes one after the other, each with its children.
use Rattle.std.proofs.Common.{◌≡◌, ℕ, suc, ◌+◌, ◌-◌, ◌*◌, ◌<◌, ◌≤◌, ◌++◌, List, length, ◌∙◌, ap, sym, subst, Some, sum_by, arith, rules}
use Rattle.std.proofs.lemmas.Result.{err_from_is_err_and}
use Rattle.chew_spec_image.specs.Fields.{Node, node_at, nodes_at}
use Rattle.chew_spec_image.specs.ReadNodes.{Due, due_under}
use Rattle.chew_trie_image.specs.Walk.{due_of_children, fault_ahead}
use Rattle.chew_trie_image.specs.declared.walk.Walk.{Walk}
use Rattle.chew_trie_image.proofs.Parents.{IsNext, all_read, next_fails, next_fits, next_of, none_waits, root_waits, waits_behind}
use Rattle.chew_trie_image.proofs.walk.check_nodes.Goals as goal

pub loop-i-init : goal.loop-i-init
loop-i-init c = record {
  walk = c.in_ok-walk.ensures.walk;
  waiting = root_waits c.args.parts.now.bytes.now c.args.parts.now.counts c.in_ok-walk.walk.nodes c.in_ok-walk.walk.fault c.in_ok-walk.walk.rows c.in_ok-walk.ensures.place c.in_ok-walk.ensures.children c.in_ok-walk.ensures.ok;
}

pub returns-then-place-walk-clause-err : goal.returns-then-place-walk-clause-err
returns-then-place-walk-clause-err c =
    let at = ap (λ (w : Walk). w.nodes.place) c.walk.view_is in
    let more : c.loop-i.i < c.args.parts.now.counts.nodes = search rules in
    let here : c.loop-i.walk.nodes.place ≡ c.fault.result.place = let f = c.fault.ensures in omega arith in
    none_waits c.args.parts.now.bytes.now c.args.parts.now.counts c.loop-i.i c.loop-i.level.len c.loop-i.level.end c.loop-i.walk.nodes c.loop-i.walk.fault c.loop-i.walk.rows
    c.loop-i.invariant.waiting more (c.if-place-walk.true ∙ at) ∙ ap (λ (k : ℕ). Some k) here

pub check_children-requires-clause-within : goal.check_children-requires-clause-within
check_children-requires-clause-within c =
    let at = ap (λ (w : Walk). w.nodes.place) c.walk.view_is in
    let read : c.node_at.result ≡ node_at c.args.parts.now.bytes.now (20 + 16 * c.loop-i.i) = search rules in
    let count : c.children.inside.children ≡ (node_at c.args.parts.now.bytes.now (20 + 16 * c.loop-i.i)).children = ap (λ (n : Node). n.children) (c.children.view_is ∙ read) in
    let next : IsNext c.args.parts.now.bytes.now c.args.parts.now.counts c.loop-i.i c.level_at-level.result.len c.level_at-level.result.end c.loop-i.walk.nodes c.loop-i.walk.fault c.loop-i.walk.rows =
    next_of c.args.parts.now.bytes.now c.args.parts.now.counts c.loop-i.i c.loop-i.level.len c.loop-i.level.end c.level_at-level.result.len c.level_at-level.result.end
    c.loop-i.walk.nodes c.loop-i.walk.fault c.loop-i.walk.rows c.loop-i.invariant.waiting (λ e. c.if-place-walk.false (e ∙ sym at))
    (λ e. let n = c.level_at-level.ensures.next e in (n.0, n.1 ∙ at)) c.level_at-level.ensures.same in
    let fits = next_fits c.args.parts.now.bytes.now c.args.parts.now.counts c.loop-i.i c.level_at-level.result.len c.level_at-level.result.end c.loop-i.walk.nodes c.loop-i.walk.fault c.loop-i.walk.rows next
    c.loop-i.invariant.walk.children in
    omega arith

pub returns-in_err-check_children-clause-err : goal.returns-in_err-check_children-clause-err
returns-in_err-check_children-clause-err c =
    let p = err_from_is_err_and c.from_residual-in_err-check_children.result c.from_residual-in_err-check_children.ensures.1 in
    rw (p.1, p.2) (
    let at = ap (λ (w : Walk). w.nodes.place) c.walk.view_is in
    let read : c.node_at.result ≡ node_at c.args.parts.now.bytes.now (20 + 16 * c.loop-i.i) = search rules in
    let count : c.children.inside.children ≡ (node_at c.args.parts.now.bytes.now (20 + 16 * c.loop-i.i)).children = ap (λ (n : Node). n.children) (c.children.view_is ∙ read) in
    let next : IsNext c.args.parts.now.bytes.now c.args.parts.now.counts c.loop-i.i c.level_at-level.result.len c.level_at-level.result.end c.loop-i.walk.nodes c.loop-i.walk.fault c.loop-i.walk.rows =
    next_of c.args.parts.now.bytes.now c.args.parts.now.counts c.loop-i.i c.loop-i.level.len c.loop-i.level.end c.level_at-level.result.len c.level_at-level.result.end
    c.loop-i.walk.nodes c.loop-i.walk.fault c.loop-i.walk.rows c.loop-i.invariant.waiting (λ e. c.if-place-walk.false (e ∙ sym at))
    (λ e. let n = c.level_at-level.ensures.next e in (n.0, n.1 ∙ at)) c.level_at-level.ensures.same in
    next_fails c.args.parts.now.bytes.now c.args.parts.now.counts c.loop-i.i c.level_at-level.result.len c.level_at-level.result.end c.in_err-check_children.field-0.0.place
    c.loop-i.walk.nodes c.loop-i.walk.fault c.loop-i.walk.rows next c.loop-i.invariant.walk.children
    (subst (λ (n : ℕ). (key : List ℕ) (later : List Due) (left : ℕ) → suc (length key) ≡ c.level_at-level.result.len → n ≤ left
    → fault_ahead c.args.parts.now.bytes.now c.args.parts.now.counts c.loop-i.walk.nodes c.loop-i.walk.fault c.loop-i.walk.rows (due_under key n ++ later) left ≡ Some c.in_err-check_children.field-0.0.place)
    count c.in_err-check_children.ensures.err)
    )

pub loop-i-preserved : goal.loop-i-preserved
loop-i-preserved c =
    let at = ap (λ (w : Walk). w.nodes.place) c.walk.view_is in
    let read : c.node_at.result ≡ node_at c.args.parts.now.bytes.now (20 + 16 * c.loop-i.i) = search rules in
    let count : c.children.inside.children ≡ (node_at c.args.parts.now.bytes.now (20 + 16 * c.loop-i.i)).children = ap (λ (n : Node). n.children) (c.children.view_is ∙ read) in
    let next : IsNext c.args.parts.now.bytes.now c.args.parts.now.counts c.loop-i.i c.level_at-level.result.len c.level_at-level.result.end c.loop-i.walk.nodes c.loop-i.walk.fault c.loop-i.walk.rows =
    next_of c.args.parts.now.bytes.now c.args.parts.now.counts c.loop-i.i c.loop-i.level.len c.loop-i.level.end c.level_at-level.result.len c.level_at-level.result.end
    c.loop-i.walk.nodes c.loop-i.walk.fault c.loop-i.walk.rows c.loop-i.invariant.waiting (λ e. c.if-place-walk.false (e ∙ sym at))
    (λ e. let n = c.level_at-level.ensures.next e in (n.0, n.1 ∙ at)) c.level_at-level.ensures.same in
    let done = c.in_ok-check_children.ensures in
    record {
      walk = done.walk;
      waiting = waits_behind c.args.parts.now.bytes.now c.args.parts.now.counts c.loop-i.i c.level_at-level.result.len c.level_at-level.result.end
          c.loop-i.walk.nodes c.check_children.new.walk.nodes c.loop-i.walk.fault c.check_children.new.walk.fault c.loop-i.walk.rows c.check_children.new.walk.rows
          next c.loop-i.invariant.walk.children
          (done.place ∙ ap (λ (n : ℕ). c.loop-i.walk.nodes.place + 16 * n) count)
          (done.children ∙ ap (λ (n : ℕ). c.loop-i.walk.nodes.next_child + sum_by (λ (node : Node). node.children) (nodes_at c.args.parts.now.bytes.now c.loop-i.walk.nodes.place n)) count)
          (subst (λ (n : ℕ). (key : List ℕ) (later : List Due) (left : ℕ) → suc (length key) ≡ c.level_at-level.result.len → n ≤ left
          → fault_ahead c.args.parts.now.bytes.now c.args.parts.now.counts c.loop-i.walk.nodes c.loop-i.walk.fault c.loop-i.walk.rows (due_under key n ++ later) left
          ≡ fault_ahead c.args.parts.now.bytes.now c.args.parts.now.counts c.check_children.new.walk.nodes c.check_children.new.walk.fault c.check_children.new.walk.rows
          (later ++ due_of_children key (nodes_at c.args.parts.now.bytes.now c.loop-i.walk.nodes.place n)) (left - n)) count done.ok);
    }

pub returns-clause-ok : goal.returns-clause-ok
returns-clause-ok c =
    let all : c.args.parts.now.counts.nodes ≤ c.loop-i.i = search rules in
    all_read c.args.parts.now.bytes.now c.args.parts.now.counts c.loop-i.i c.loop-i.level.len c.loop-i.level.end c.loop-i.walk.nodes c.loop-i.walk.fault c.loop-i.walk.rows
    c.loop-i.invariant.waiting all c.loop-i.invariant.walk.within
