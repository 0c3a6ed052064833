-- By the lemmas on the rounds of a session.
use Rattle.chew_spec_session.proofs.LastRounds.{all-saved, at-least, at-most, calls-of-rounds}
use Rattle.chew_spec_session.proofs.laws.last_rounds.rounds_of_a_session.Goals as goal

pub returns-clause-calls : goal.returns-clause-calls
returns-clause-calls c = calls-of-rounds

pub returns-clause-worker : goal.returns-clause-worker
returns-clause-worker c = at-least

pub returns-clause-two : goal.returns-clause-two
returns-clause-two c = at-most

pub returns-clause-saved : goal.returns-clause-saved
returns-clause-saved c = all-saved
