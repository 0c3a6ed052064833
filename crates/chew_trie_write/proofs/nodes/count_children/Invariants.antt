-- The keys so far are children; those that are left decide.
use Rattle.std.proofs.Common.{◌≡◌, ◌+◌, drop}
use Rattle.std.specs.List.{prefix_len}
use Rattle.chew_spec_image.specs.NodeKeys.{is_child}
use Rattle.chew_trie_write.proofs.nodes.count_children.Given as goal

abbrev pub invariant-loop-key : goal.invariant-loop-key
invariant-loop-key l = record {
  count : l.count ≡ l.key-index;
  left : prefix_len (is_child l.parent) l.keys ≡ l.key-index + prefix_len (is_child l.parent) (drop l.key-index l.keys);
}
