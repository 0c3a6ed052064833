-- By the lemma on histories.
use Rattle.chew_spec_disk.proofs.Histories.{memory_is_disk}
use Rattle.chew_spec_disk.proofs.laws.memory.memory_is_a_disk.Goals as goal

pub returns : goal.returns
returns c = memory_is_disk
