-- Fewer nodes are left at each call.
use Rattle.std.proofs.Common.{◌-◌}
use Rattle.chew_trie_read.proofs.find.+search.Given as goal

abbrev pub decreases-search : goal.decreases-search
decreases-search l = l.high - l.low
