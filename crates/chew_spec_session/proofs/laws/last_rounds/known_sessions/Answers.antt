-- By the known sessions.
use Rattle.std.specs.Prelude.{◌∷◌, [], refl}
use Rattle.std.proofs.Common.{inr}
use Rattle.chew_spec_rounds.specs.Known.{looks}
use Rattle.chew_spec_session.proofs.KnownSessions.{one-round, round-between, round-failed, round-waits}
use Rattle.chew_spec_session.proofs.laws.last_rounds.known_sessions.Goals as goal

pub returns-clause-none : goal.returns-clause-none
returns-clause-none c = record { before = looks ∷ []; made = refl; worker = refl; last = inr ((refl, λ key phrase. refl), refl) }

pub returns-clause-one : goal.returns-clause-one
returns-clause-one c = one-round

pub returns-clause-between : goal.returns-clause-between
returns-clause-between c = round-between

pub returns-clause-failed : goal.returns-clause-failed
returns-clause-failed c = round-failed

pub returns-clause-waits : goal.returns-clause-waits
returns-clause-waits c = round-waits
