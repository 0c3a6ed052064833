-- The nodes that are left come behind what was written.
use Rattle.std.proofs.Common.{◌≡◌, ◌++◌, drop}
use Rattle.std.specs.List.{flat_map}
use Rattle.chew_spec_image.specs.Fields.{node_bytes}
use Rattle.chew_spec_image.specs.Image.{nodes_from, nodes_of}
use Rattle.chew_trie_write.specs.Place.{IsAt}
use Rattle.chew_trie_write.proofs.nodes.push_nodes.Given as goal

abbrev pub invariant-loop-key : goal.invariant-loop-key
invariant-loop-key l = record {
  at : IsAt l.rows l.keys (drop l.key-index l.keys) l.at.child l.at.row;
  items : l.fn.out.items ++ flat_map node_bytes (nodes_of l.rows) ≡ l.out.items ++ flat_map node_bytes (nodes_from l.rows l.at.child l.at.row (drop l.key-index l.keys));
}
