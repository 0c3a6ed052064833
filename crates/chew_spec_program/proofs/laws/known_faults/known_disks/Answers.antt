-- By the lemmas on known disks.
use Rattle.chew_spec_program.proofs.KnownFaults.{cut-refused, five-begins, five-called, five-whole, five-written, gate-not-whole}
use Rattle.chew_spec_program.proofs.laws.known_faults.known_disks.Goals as goal

pub returns-clause-begins : goal.returns-clause-begins
returns-clause-begins c = five-begins

pub returns-clause-whole : goal.returns-clause-whole
returns-clause-whole c = five-whole

pub returns-clause-not_saved : goal.returns-clause-not_saved
returns-clause-not_saved c = gate-not-whole

pub returns-clause-called : goal.returns-clause-called
returns-clause-called c = five-called

pub returns-clause-written : goal.returns-clause-written
returns-clause-written c = five-written

pub returns-clause-untold : goal.returns-clause-untold
returns-clause-untold c = λ begins. absurd (cc begins.told)

pub returns-clause-damaged : goal.returns-clause-damaged
returns-clause-damaged c = cut-refused
