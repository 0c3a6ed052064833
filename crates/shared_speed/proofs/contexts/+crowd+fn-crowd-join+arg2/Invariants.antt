-- Each thread has a context less.
use Rattle.std.proofs.Common.{◌+◌, ◌*◌, length}
use Rattle.shared_speed.proofs.contexts.+crowd+fn-crowd-join+arg2.Given as goal

abbrev pub decreases-crowd : goal.decreases-crowd
decreases-crowd g l = 2 * length l.contexts.items

abbrev pub decreases-join+arg2 : goal.decreases-join+arg2
decreases-join+arg2 g l = 2 * length l.contexts.items + 1
