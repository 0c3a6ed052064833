-- By cases of the round.
use Rattle.chew_spec_rounds.proofs.Counts.{counts-fault, counts-memory, counts-saved, counts-spent}
use Rattle.chew_spec_rounds.proofs.laws.seqs.rounds_count.Goals as goal

pub returns-clause-saved : goal.returns-clause-saved
returns-clause-saved c = counts-saved

pub returns-clause-fault : goal.returns-clause-fault
returns-clause-fault c = counts-fault

pub returns-clause-memory : goal.returns-clause-memory
returns-clause-memory c = counts-memory

pub returns-clause-spent : goal.returns-clause-spent
returns-clause-spent c = counts-spent
