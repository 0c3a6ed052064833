-- By the lemmas on known disks.
use Rattle.chew_spec_rounds.proofs.Known.{kept-once, lost-again}
use Rattle.chew_spec_rounds.proofs.laws.known.known_sessions.Goals as goal

pub returns-clause-kept : goal.returns-clause-kept
returns-clause-kept c = kept-once

pub returns-clause-lost : goal.returns-clause-lost
returns-clause-lost c = lost-again
