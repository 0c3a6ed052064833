-- By the places of a list.
use Rattle.chew_spec_syllable.proofs.Apart.{once_at, once_back}
use Rattle.chew_spec_syllable.proofs.laws.row.pairs_are_apart.Goals as goal

pub returns-clause-once : goal.returns-clause-once
returns-clause-once c = once_at

pub returns-clause-back : goal.returns-clause-back
returns-clause-back c = once_back
