-- Each law is a lemma.
use Rattle.chew_spec_cell.proofs.Sights.{turn-front, turn-length, turn-own, turn-others}
use Rattle.chew_spec_cell.proofs.laws.seen.what_a_turn_adds.Goals as goal

pub returns-clause-front : goal.returns-clause-front
returns-clause-front c = turn-front

pub returns-clause-length : goal.returns-clause-length
returns-clause-length c = turn-length

pub returns-clause-own : goal.returns-clause-own
returns-clause-own c = turn-own

pub returns-clause-others : goal.returns-clause-others
returns-clause-others c = λ who other before after turn. turn-others who before after turn other
