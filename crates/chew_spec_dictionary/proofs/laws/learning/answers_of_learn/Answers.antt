-- Each law is a lemma.
use Rattle.chew_spec_dictionary.proofs.Learning.{reply_of_hidden, reply_of_held, reply_of_new, full_where}
use Rattle.chew_spec_dictionary.proofs.laws.learning.answers_of_learn.Goals as goal

pub returns-clause-held : goal.returns-clause-held
returns-clause-held c = reply_of_held

pub returns-clause-new : goal.returns-clause-new
returns-clause-new c = reply_of_new

pub returns-clause-full : goal.returns-clause-full
returns-clause-full c = full_where

pub returns-clause-hidden : goal.returns-clause-hidden
returns-clause-hidden c = reply_of_hidden
