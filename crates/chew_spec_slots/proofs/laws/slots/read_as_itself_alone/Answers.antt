-- By the lemmas on what reads as a checkpoint.
use Rattle.chew_spec_slots.proofs.Whole.{begins-digest, begins-plain, magic-of, saved-of, whole-slot}
use Rattle.chew_spec_slots.proofs.laws.slots.read_as_itself_alone.Goals as goal

pub returns-clause-digest : goal.returns-clause-digest
returns-clause-digest c = begins-digest

pub returns-clause-plain : goal.returns-clause-plain
returns-clause-plain c = begins-plain

pub returns-clause-either : goal.returns-clause-either
returns-clause-either c = magic-of

pub returns-clause-saved : goal.returns-clause-saved
returns-clause-saved c = saved-of

pub returns-clause-whole : goal.returns-clause-whole
returns-clause-whole c = whole-slot
