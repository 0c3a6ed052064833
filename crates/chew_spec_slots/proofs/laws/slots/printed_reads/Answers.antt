-- By the lemmas on what is printed.
use Rattle.chew_spec_slots.proofs.Printed.{body-fits, length-digest, printed, printed-plain}
use Rattle.chew_spec_slots.proofs.laws.slots.printed_reads.Goals as goal

pub returns-clause-slot : goal.returns-clause-slot
returns-clause-slot c = printed

pub returns-clause-plain : goal.returns-clause-plain
returns-clause-plain c = printed-plain

pub returns-clause-digest : goal.returns-clause-digest
returns-clause-digest c = length-digest

pub returns-clause-fits : goal.returns-clause-fits
returns-clause-fits c = body-fits
