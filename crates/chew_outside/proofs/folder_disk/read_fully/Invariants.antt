-- What was read fits the buffer.
use Rattle.std.proofs.Common.{◌-◌, ◌≤◌, length}
use Rattle.chew_outside.proofs.folder_disk.read_fully.Given as goal

abbrev pub decreases-filling : goal.decreases-filling
decreases-filling l = length l.initial.into - l.done

abbrev pub invariant-filling : goal.invariant-filling
invariant-filling l = l.done ≤ length l.into
