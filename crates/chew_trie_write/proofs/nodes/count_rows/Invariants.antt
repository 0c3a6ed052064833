-- The rows so far are the key's; those that are left decide.
use Rattle.std.proofs.Common.{◌≡◌, ◌+◌, drop}
use Rattle.std.specs.List.{prefix_len}
use Rattle.chew_spec_dictionary.specs.System.{is_under}
use Rattle.chew_trie_write.proofs.nodes.count_rows.Given as goal

abbrev pub invariant-loop-row : goal.invariant-loop-row
invariant-loop-row l = record {
  count : l.count ≡ l.row-index;
  left : prefix_len (is_under l.key) l.rows ≡ l.row-index + prefix_len (is_under l.key) (drop l.row-index l.rows);
}
