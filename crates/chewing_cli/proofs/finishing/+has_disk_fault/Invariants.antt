-- Each call has a round less.
use Rattle.std.proofs.Common.{length}
use Rattle.chewing_cli.proofs.finishing.+has_disk_fault.Given as goal

abbrev pub decreases-has_disk_fault : goal.decreases-has_disk_fault
decreases-has_disk_fault l = length l.rounds.now
