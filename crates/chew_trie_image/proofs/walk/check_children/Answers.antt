-- One child more.
use Rattle.std.proofs.Common.{◌≡◌, ℕ, ◌-◌, ◌++◌, List, ◌∙◌, ap, arith}
use Rattle.std.proofs.lemmas.Result.{err_from_is_err_and}
use Rattle.chew_spec_image.specs.Fields.{nodes_at, node_at}
use Rattle.chew_spec_image.specs.ReadNodes.{Due}
use Rattle.chew_trie_image.specs.Walk.{due_of_children, fault_ahead}
use Rattle.chew_trie_image.proofs.Children.{child_fails, child_passes, children_more, due_all}
use Rattle.chew_trie_image.proofs.walk.check_children.Goals as goal

pub returns-in_err-check_child-clause-err : goal.returns-in_err-check_child-clause-err
returns-in_err-check_child-clause-err c =
    let p = err_from_is_err_and c.from_residual.result c.from_residual.ensures.1 in
    rw (p.1, p.2) (λ key later left long few.
    c.loop-i.invariant.same key later left long few
    ∙ child_fails c.args.parts.now.bytes.now c.args.parts.now.counts key c.args.count c.loop-i.i left c.in_err-check_child.field-0.0.place c.loop-i.walk.nodes c.loop-i.walk.fault c.loop-i.walk.rows
    (later ++ due_of_children key (nodes_at c.args.parts.now.bytes.now c.args.walk.now.nodes.place c.loop-i.i)) c.loop-i-test.true few
    (λ more n. c.in_err-check_child.ensures.err key more n long)
    )

pub loop-i-preserved : goal.loop-i-preserved
loop-i-preserved c = record {
  walk = c.in_ok-check_child.ensures.walk;
  place = let p = c.in_ok-check_child.ensures.place in let q = c.loop-i.invariant.place in omega arith;
  children =
      let p = c.in_ok-check_child.ensures.children in
      let q = c.loop-i.invariant.children in
      let m = children_more c.args.parts.now.bytes.now c.args.walk.now.nodes.place c.loop-i.i in
      let n = ap (λ (k : ℕ). (node_at c.args.parts.now.bytes.now k).children) c.loop-i.invariant.place in
      omega arith;
  same = λ key later left long few.
      c.loop-i.invariant.same key later left long few
      ∙ child_passes c.args.parts.now.bytes.now c.args.parts.now.counts key c.args.count c.loop-i.i c.args.walk.now.nodes.place left c.loop-i.walk.nodes c.check_child.new.walk.nodes
      c.loop-i.walk.fault c.check_child.new.walk.fault c.loop-i.walk.rows c.check_child.new.walk.rows later c.loop-i-test.true few c.loop-i.invariant.place
      (λ more n. c.in_ok-check_child.ensures.ok key more n long);
}

pub returns-clause-ok : goal.returns-clause-ok
returns-clause-ok c key later left long few =
    let i : c.loop-i.i ≡ c.args.count = omega arith in
    c.loop-i.invariant.same key later left long few
    ∙ ap (λ (due : List Due). fault_ahead c.args.parts.now.bytes.now c.args.parts.now.counts c.loop-i.walk.nodes c.loop-i.walk.fault c.loop-i.walk.rows
    (due ++ (later ++ due_of_children key (nodes_at c.args.parts.now.bytes.now c.args.walk.now.nodes.place c.loop-i.i))) (left - c.loop-i.i)) (due_all key c.args.count c.loop-i.i (omega arith))
    ∙ ap (λ (k : ℕ). fault_ahead c.args.parts.now.bytes.now c.args.parts.now.counts c.loop-i.walk.nodes c.loop-i.walk.fault c.loop-i.walk.rows
    (later ++ due_of_children key (nodes_at c.args.parts.now.bytes.now c.args.walk.now.nodes.place k)) (left - k)) i
