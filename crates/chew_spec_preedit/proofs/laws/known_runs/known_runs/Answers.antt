-- Each list computes.
use Rattle.std.proofs.Common.{refl}
use Rattle.chew_spec_preedit.specs.PlacedRun.{runs_of}
use Rattle.chew_spec_preedit.proofs.laws.known_runs.known_runs.Goals as goal

pub returns-clause-parted : goal.returns-clause-parted
unfolding runs_of
returns-clause-parted c = refl

pub returns-clause-symbols : goal.returns-clause-symbols
unfolding runs_of
returns-clause-symbols c = refl

pub returns-clause-behind : goal.returns-clause-behind
unfolding runs_of
returns-clause-behind c = refl
