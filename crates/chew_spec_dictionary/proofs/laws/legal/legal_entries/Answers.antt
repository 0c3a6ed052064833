-- Each law is a lemma.
use Rattle.chew_spec_dictionary.proofs.Legal.{keepers-calls, proper-calls, users-entries, waits-then}
use Rattle.chew_spec_dictionary.proofs.laws.legal.legal_entries.Goals as goal

pub returns-clause-keepers : goal.returns-clause-keepers
returns-clause-keepers c = keepers-calls

pub returns-clause-proper : goal.returns-clause-proper
returns-clause-proper c = proper-calls

pub returns-clause-waits : goal.returns-clause-waits
returns-clause-waits c = waits-then

pub returns-clause-users : goal.returns-clause-users
returns-clause-users c = users-entries
