-- Each thread has a pass less.
use Rattle.std.proofs.Common.{◌+◌, ◌*◌, length}
use Rattle.chew_session.proofs.each.+fn-run_each-join+arg2+run_each.Given as goal

abbrev pub decreases-run_each : goal.decreases-run_each
decreases-run_each g l = 2 * length l.passes.items

abbrev pub decreases-join+arg2 : goal.decreases-join+arg2
decreases-join+arg2 g l = 2 * length l.passes.items + 1
