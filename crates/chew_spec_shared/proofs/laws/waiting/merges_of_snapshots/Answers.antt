-- Each law is a lemma.
use Rattle.chew_spec_shared.proofs.Waiting.{merge-of-snapshot, one-merge, one-number}
use Rattle.chew_spec_shared.proofs.laws.waiting.merges_of_snapshots.Goals as goal

pub returns-clause-merge : goal.returns-clause-merge
returns-clause-merge c = merge-of-snapshot

pub returns-clause-number : goal.returns-clause-number
returns-clause-number c = one-number

pub returns-clause-rows : goal.returns-clause-rows
returns-clause-rows c = one-merge
