-- The user's rows, and the system's that are free of them, put in order.
use Rattle.chew_spec_phrasing.proofs.Combined.{Contains-combined-cases, Contains-combined-system, Contains-combined-user, IsSorted-combined, has_phrase-combined, hidden-combined, nowhere-combined, once-combined}
use Rattle.chew_spec_phrasing.proofs.laws.combined_rows_hide.Goals as goal

pub returns-clause-sorted : goal.returns-clause-sorted
returns-clause-sorted c = IsSorted-combined

pub returns-clause-once : goal.returns-clause-once
returns-clause-once c = once-combined

pub returns-clause-user : goal.returns-clause-user
returns-clause-user c = Contains-combined-user

pub returns-clause-system : goal.returns-clause-system
returns-clause-system c = Contains-combined-system

pub returns-clause-either : goal.returns-clause-either
returns-clause-either c = Contains-combined-cases

pub returns-clause-own : goal.returns-clause-own
returns-clause-own c = hidden-combined

pub returns-clause-hidden : goal.returns-clause-hidden
returns-clause-hidden c = nowhere-combined

pub returns-clause-phrases : goal.returns-clause-phrases
returns-clause-phrases c = has_phrase-combined
