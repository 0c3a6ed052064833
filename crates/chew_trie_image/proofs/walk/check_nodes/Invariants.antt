-- The children of the first nodes were read, and others wait.
use Rattle.chew_trie_image.specs.Walk.{IsWaiting, IsWalk}
use Rattle.chew_trie_image.proofs.walk.check_nodes.Given as goal

abbrev pub invariant-loop-i : goal.invariant-loop-i
invariant-loop-i l = record {
  walk : IsWalk l.parts.counts l.walk.nodes l.walk.fault l.walk.rows;
  waiting : IsWaiting l.parts.bytes.now l.parts.counts l.i l.level.len l.level.end l.walk.nodes l.walk.fault l.walk.rows;
}
