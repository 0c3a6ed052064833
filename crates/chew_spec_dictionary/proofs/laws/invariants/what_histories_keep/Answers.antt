-- Each law is a lemma.
use Rattle.chew_spec_dictionary.proofs.Invariants.{after_rows, after_cap, after_life, after_times, replies_counted}
use Rattle.chew_spec_dictionary.proofs.laws.invariants.what_histories_keep.Goals as goal

pub returns-clause-rows : goal.returns-clause-rows
returns-clause-rows c = after_rows

pub returns-clause-cap : goal.returns-clause-cap
returns-clause-cap c = after_cap

pub returns-clause-life : goal.returns-clause-life
returns-clause-life c = after_life

pub returns-clause-times : goal.returns-clause-times
returns-clause-times c = after_times

pub returns-clause-replies : goal.returns-clause-replies
returns-clause-replies c = replies_counted
