-- By what the write did.
use Rattle.chew_spec_disk.proofs.MemoryCalls.{write-answers}
use Rattle.chew_outside.proofs.mem_disk.MemDiskDisk.write_at.Goals as goal

pub returns-clause-answer : goal.returns-clause-answer
returns-clause-answer c told = write-answers _ _ _ _ _ c.write.result c.requires c.write.ensures.sound c.write.ensures.writes
