-- Each law is a lemma.
use Rattle.chew_spec_dictionary.proofs.Hiding.{hide_same, held_hidden, new_hidden, others_hidden, life_hidden, cap_hidden}
use Rattle.chew_spec_dictionary.proofs.laws.hiding.left_by_hide.Goals as goal

pub returns-clause-same : goal.returns-clause-same
returns-clause-same c = hide_same

pub returns-clause-held : goal.returns-clause-held
returns-clause-held c = held_hidden

pub returns-clause-new : goal.returns-clause-new
returns-clause-new c = new_hidden

pub returns-clause-others : goal.returns-clause-others
returns-clause-others c = others_hidden

pub returns-clause-life : goal.returns-clause-life
returns-clause-life c = life_hidden

pub returns-clause-cap : goal.returns-clause-cap
returns-clause-cap c = cap_hidden
