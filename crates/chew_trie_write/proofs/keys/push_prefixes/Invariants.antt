-- The prefixes of the first lengths were added.
use Rattle.std.proofs.Common.{◌≡◌, ◌+◌, ◌++◌, length}
use Rattle.chew_trie_write.specs.Unlike.{prefixes_to}
use Rattle.chew_trie_write.proofs.keys.push_prefixes.Given as goal

abbrev pub invariant-loop-n : goal.invariant-loop-n
invariant-loop-n l = record {
  items : l.keys.items ≡ l.fn.keys.items ++ prefixes_to l.key l.n;
  few : length l.keys.items ≡ length l.fn.keys.items + l.n;
}
