-- By the lemmas on what fits.
use Rattle.std.specs.Prelude.{refl}
use Rattle.chew_spec_slots.specs.Keep.{acknowledged_state}
use Rattle.chew_spec_slots.proofs.Chances.{fits-chance}
use Rattle.chew_spec_slots.proofs.Fitting.{fits-recovers}
use Rattle.chew_spec_slots.proofs.States.{only-old}
use Rattle.chew_spec_slots.proofs.laws.crashes.no_crash_harms.Goals as goal

pub returns-clause-recovers : goal.returns-clause-recovers
returns-clause-recovers g c = λ keep. fits-recovers keep g.D.AnyDisk.disk

pub returns-clause-alone : goal.returns-clause-alone
returns-clause-alone g c = λ keep fits none. only-old keep g.D.AnyDisk.disk (acknowledged_state keep g.D.AnyDisk.disk) fits none refl

pub returns-clause-chance : goal.returns-clause-chance
returns-clause-chance g c = λ keep. fits-chance keep g.D.AnyDisk.disk
