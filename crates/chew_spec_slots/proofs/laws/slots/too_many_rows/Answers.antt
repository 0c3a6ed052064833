-- By the lemmas on what is printed.
use Rattle.chew_spec_slots.proofs.Printed.{too-many, too-many-plain}
use Rattle.chew_spec_slots.proofs.laws.slots.too_many_rows.Goals as goal

pub returns-clause-slot : goal.returns-clause-slot
returns-clause-slot c = too-many

pub returns-clause-plain : goal.returns-clause-plain
returns-clause-plain c = too-many-plain
