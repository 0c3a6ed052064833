-- The node so far has the front of the key.
use Rattle.std.proofs.Common.{◌≡◌, ◌<◌, length, take}
use Rattle.chew_spec_image.specs.NodeKeys.{node_keys}
use Rattle.chew_trie_read.specs.Search.{key_at}
use Rattle.chew_trie_read.proofs.find.find.Given as goal

abbrev pub invariant-loop-syllable : goal.invariant-loop-syllable
invariant-loop-syllable l = record {
  within : l.node < length (node_keys l.image);
  front : key_at l.image l.node ≡ take l.syllable-index l.key;
}
