-- Each law is a lemma.
use Rattle.chew_spec_cell.proofs.Sights.{longer-one, longer-seen, longer-other, longer-front}
use Rattle.chew_spec_cell.proofs.laws.seen.longer_of_two_lists.Goals as goal

pub returns-clause-one : goal.returns-clause-one
returns-clause-one c = longer-one

pub returns-clause-seen : goal.returns-clause-seen
returns-clause-seen c = longer-seen

pub returns-clause-other : goal.returns-clause-other
returns-clause-other c = longer-other

pub returns-clause-front : goal.returns-clause-front
returns-clause-front c = longer-front
