-- By the lemma on what recovery finds.
use Rattle.chew_spec_slots.proofs.Found.{found}
use Rattle.chew_spec_slots.proofs.laws.crashes.found_slots_fit.Goals as goal

pub returns-clause-fits : goal.returns-clause-fits
returns-clause-fits g c = λ checkpoint is_disk zero one is. (found g.D.AnyDisk.disk checkpoint is_disk zero one is).fits

pub returns-clause-state : goal.returns-clause-state
returns-clause-state g c = λ checkpoint is_disk zero one is. (found g.D.AnyDisk.disk checkpoint is_disk zero one is).state

pub returns-clause-left : goal.returns-clause-left
returns-clause-left g c = λ checkpoint is_disk zero one is. (found g.D.AnyDisk.disk checkpoint is_disk zero one is).left
