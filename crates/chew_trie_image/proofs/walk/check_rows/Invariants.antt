-- The rows that are left have the fault that all had.
use Rattle.std.proofs.Common.{◌≡◌, ℕ, ◌+◌, ◌*◌, ◌≤◌, List, ◌++◌, length, drop}
use Rattle.chew_spec_image.specs.ReadNodes.{Due, due_under}
use Rattle.chew_trie_image.specs.Walk.{fault_of_rows}
use Rattle.chew_trie_image.proofs.walk.check_rows.Given as goal

abbrev pub invariant-loop-i : goal.invariant-loop-i
invariant-loop-i l = record {
  place : l.read.place ≡ l.fn.read.place + 20 * l.i;
  same : (key : List ℕ) (later : List Due) (seen : ℕ) → length key ≡ l.len → seen + l.count ≤ l.parts.counts.rows
      → fault_of_rows l.parts.bytes.now l.parts.counts seen l.fn.read (due_under key l.count ++ later)
      ≡ fault_of_rows l.parts.bytes.now l.parts.counts (seen + l.i) l.read (drop l.i (due_under key l.count) ++ later);
}
