-- By what comes near a session and is none.
use Rattle.std.proofs.Common.{arith}
use Rattle.chew_spec_session.proofs.KnownSessions.{after-fault, after-no-memory, after-spent, left-out, needless, still-waits}
use Rattle.chew_spec_session.proofs.laws.last_rounds.wrong_sessions.Goals as goal

pub returns-clause-left_out : goal.returns-clause-left_out
returns-clause-left_out c = left-out

pub returns-clause-still_waits : goal.returns-clause-still_waits
returns-clause-still_waits c = still-waits

pub returns-clause-needless : goal.returns-clause-needless
returns-clause-needless c = needless

pub returns-clause-after_fault : goal.returns-clause-after_fault
returns-clause-after_fault c = after-fault

pub returns-clause-after_no_memory : goal.returns-clause-after_no_memory
returns-clause-after_no_memory c = after-no-memory

pub returns-clause-after_spent : goal.returns-clause-after_spent
returns-clause-after_spent c = after-spent

pub returns-clause-not_asked : goal.returns-clause-not_asked
returns-clause-not_asked c = λ are. let made = are.made in omega arith
