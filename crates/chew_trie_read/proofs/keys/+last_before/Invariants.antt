-- Fewer nodes are left at each call.
use Rattle.std.proofs.Common.{◌-◌}
use Rattle.chew_trie_read.proofs.keys.+last_before.Given as goal

abbrev pub decreases-last_before : goal.decreases-last_before
decreases-last_before l = l.high - l.low
