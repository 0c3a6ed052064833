-- Each law is a lemma.
use Rattle.chew_spec_cell.proofs.Sights.{seen-own, seen-front, seen-all, seen-over, seen-others, seen-one}
use Rattle.chew_spec_cell.proofs.laws.seen.what_was_seen.Goals as goal

pub returns-clause-own : goal.returns-clause-own
returns-clause-own c = seen-own

pub returns-clause-front : goal.returns-clause-front
returns-clause-front c = seen-front

pub returns-clause-all : goal.returns-clause-all
returns-clause-all c = seen-all

pub returns-clause-over : goal.returns-clause-over
returns-clause-over c = seen-over

pub returns-clause-others : goal.returns-clause-others
returns-clause-others c = seen-others

pub returns-clause-one : goal.returns-clause-one
returns-clause-one c = seen-one
