-- Each computes.
use Rattle.std.proofs.Common.{refl}
use Rattle.chew_spec_preedit.specs.PlacedRun.{runs_of}
use Rattle.chew_spec_preedit.proofs.laws.known_runs.known_parts_of_runs.Goals as goal

pub returns-clause-at : goal.returns-clause-at
unfolding runs_of
returns-clause-at c = refl

pub returns-clause-last : goal.returns-clause-last
unfolding runs_of
returns-clause-last c = refl

pub returns-clause-symbol : goal.returns-clause-symbol
unfolding runs_of
returns-clause-symbol c = refl

pub returns-clause-past : goal.returns-clause-past
unfolding runs_of
returns-clause-past c = refl

pub returns-clause-breaks : goal.returns-clause-breaks
unfolding runs_of
returns-clause-breaks c = refl

pub returns-clause-choices : goal.returns-clause-choices
unfolding runs_of
returns-clause-choices c = refl

pub returns-clause-pieces : goal.returns-clause-pieces
unfolding runs_of
returns-clause-pieces c = refl
