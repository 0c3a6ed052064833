-- The codes so far stand behind those of the node.
use Rattle.chew_trie_read.proofs.Climbing.{Climbed}
use Rattle.chew_trie_read.proofs.keys.key_of.Given as goal

abbrev pub decreases-climbing : goal.decreases-climbing
decreases-climbing l = l.from

abbrev pub invariant-climbing : goal.invariant-climbing
invariant-climbing l = Climbed l.image l.start l.node l.from l.syllables
