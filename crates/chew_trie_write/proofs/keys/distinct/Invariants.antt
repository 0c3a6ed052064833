-- What differs among the keys that are left comes behind what was kept.
use Rattle.std.proofs.Common.{◌≡◌, ◌≤◌, ◌++◌, [], length, drop}
use Rattle.chew_trie_write.specs.Unlike.{unlike}
use Rattle.chew_trie_write.proofs.keys.distinct.Given as goal

abbrev pub invariant-loop-key : goal.invariant-loop-key
invariant-loop-key l = record {
  items : unlike [] l.keys ≡ l.kept.items ++ unlike l.last (drop l.key-index l.keys);
  few : length l.kept.items ≤ l.key-index;
}
