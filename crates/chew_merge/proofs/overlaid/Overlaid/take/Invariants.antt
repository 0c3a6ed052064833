-- What is left together stays the same, while rows and marks get fewer.
use Rattle.std.proofs.Common.{◌≡◌, ◌+◌, length}
use Rattle.chew_merge.specs.Rest.{rows_together}
use Rattle.chew_merge.proofs.overlaid.Overlaid.take.Given as goal

abbrev pub invariant-merging : goal.invariant-merging
invariant-merging l = rows_together l.self ≡ rows_together l.initial.self

abbrev pub decreases-merging : goal.decreases-merging
decreases-merging l = length l.self.rows + length l.self.marks
