-- Each law is a lemma.
use Rattle.chew_spec_dictionary.proofs.Learning.{not_there_where, forgot_where, not_there_same, gone_forgot, others_forgot, life_forgot, cap_forgot}
use Rattle.chew_spec_dictionary.proofs.laws.learning.laws_of_forget.Goals as goal

pub returns-clause-not_there : goal.returns-clause-not_there
returns-clause-not_there c = not_there_where

pub returns-clause-forgot : goal.returns-clause-forgot
returns-clause-forgot c = forgot_where

pub returns-clause-same : goal.returns-clause-same
returns-clause-same c = not_there_same

pub returns-clause-gone : goal.returns-clause-gone
returns-clause-gone c = gone_forgot

pub returns-clause-others : goal.returns-clause-others
returns-clause-others c = others_forgot

pub returns-clause-life : goal.returns-clause-life
returns-clause-life c = life_forgot

pub returns-clause-cap : goal.returns-clause-cap
returns-clause-cap c = cap_forgot
