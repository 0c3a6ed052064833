-- Each law is a lemma.
use Rattle.chew_spec_dictionary.proofs.Counts.{count_put, count_held, count_new, count_forgot, count_hidden, count_hidden_new, after_within}
use Rattle.chew_spec_dictionary.proofs.laws.counts.counts_of_pairs.Goals as goal

pub returns-clause-put : goal.returns-clause-put
returns-clause-put c = count_put

pub returns-clause-held : goal.returns-clause-held
returns-clause-held c = count_held

pub returns-clause-new : goal.returns-clause-new
returns-clause-new c = count_new

pub returns-clause-forgot : goal.returns-clause-forgot
returns-clause-forgot c = count_forgot

pub returns-clause-within : goal.returns-clause-within
returns-clause-within c = after_within

pub returns-clause-hidden : goal.returns-clause-hidden
returns-clause-hidden c = count_hidden

pub returns-clause-new_hidden : goal.returns-clause-new_hidden
returns-clause-new_hidden c = count_hidden_new
