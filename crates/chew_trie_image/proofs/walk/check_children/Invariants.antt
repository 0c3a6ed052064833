-- The children that are left have the fault that all had.
use Rattle.std.proofs.Common.{◌≡◌, ℕ, suc, ◌+◌, ◌-◌, ◌*◌, ◌≤◌, List, ◌++◌, length, drop, sum_by}
use Rattle.chew_spec_image.specs.Fields.{nodes_at}
use Rattle.chew_spec_image.specs.ReadNodes.{Due, due_under}
use Rattle.chew_trie_image.specs.Walk.{IsWalk, due_of_children, fault_ahead}
use Rattle.chew_trie_image.proofs.walk.check_children.Given as goal

abbrev pub invariant-loop-i : goal.invariant-loop-i
invariant-loop-i l = record {
  walk : IsWalk l.parts.counts l.walk.nodes l.walk.fault l.walk.rows;
  place : l.walk.nodes.place ≡ l.fn.walk.nodes.place + 16 * l.i;
  children : l.walk.nodes.next_child ≡ l.fn.walk.nodes.next_child + sum_by (λ node. node.children) (nodes_at l.parts.bytes.now l.fn.walk.nodes.place l.i);
  same : (key : List ℕ) (later : List Due) (left : ℕ) → suc (length key) ≡ l.len → l.count ≤ left
      → fault_ahead l.parts.bytes.now l.parts.counts l.fn.walk.nodes l.fn.walk.fault l.fn.walk.rows (due_under key l.count ++ later) left
      ≡ fault_ahead l.parts.bytes.now l.parts.counts l.walk.nodes l.walk.fault l.walk.rows
      (drop l.i (due_under key l.count) ++ (later ++ due_of_children key (nodes_at l.parts.bytes.now l.fn.walk.nodes.place l.i))) (left - l.i);
}
