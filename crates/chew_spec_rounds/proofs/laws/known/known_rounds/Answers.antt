-- By the lemmas on known disks.
use Rattle.chew_spec_rounds.proofs.Known.{fails-last, new-number, not-synced, saves-one}
use Rattle.chew_spec_rounds.proofs.laws.known.known_rounds.Goals as goal

pub returns-clause-saved : goal.returns-clause-saved
returns-clause-saved c = saves-one

pub returns-clause-new_number : goal.returns-clause-new_number
returns-clause-new_number c = new-number

pub returns-clause-failed : goal.returns-clause-failed
returns-clause-failed c = fails-last

pub returns-clause-not_synced : goal.returns-clause-not_synced
returns-clause-not_synced c = not-synced
