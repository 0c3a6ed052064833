-- By its gate.
use Rattle.chew_spec_slots.proofs.Targets.{shut-gate}
use Rattle.chew_spec_slots.proofs.laws.crashes.torn_behind_a_gate.Goals as goal

pub returns : goal.returns
returns c = λ list behind. shut-gate list behind.shut
