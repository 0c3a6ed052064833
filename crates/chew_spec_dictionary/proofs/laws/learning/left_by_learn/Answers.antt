-- Each law is a lemma.
use Rattle.chew_spec_dictionary.proofs.Learning.{shown_learned, full_same, pair_learned, others_learned, life_learned, cap_learned}
use Rattle.chew_spec_dictionary.proofs.laws.learning.left_by_learn.Goals as goal

pub returns-clause-full : goal.returns-clause-full
returns-clause-full c = full_same

pub returns-clause-pair : goal.returns-clause-pair
returns-clause-pair c = pair_learned

pub returns-clause-others : goal.returns-clause-others
returns-clause-others c = others_learned

pub returns-clause-life : goal.returns-clause-life
returns-clause-life c = life_learned

pub returns-clause-cap : goal.returns-clause-cap
returns-clause-cap c = cap_learned

pub returns-clause-shown : goal.returns-clause-shown
returns-clause-shown c = shown_learned
