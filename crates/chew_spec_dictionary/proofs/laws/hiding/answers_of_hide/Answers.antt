-- Each law is a lemma.
use Rattle.chew_spec_dictionary.proofs.Hiding.{not_there_hidden, full_hidden, hid_else}
use Rattle.chew_spec_dictionary.proofs.laws.hiding.answers_of_hide.Goals as goal

pub returns-clause-not_there : goal.returns-clause-not_there
returns-clause-not_there c = not_there_hidden

pub returns-clause-full : goal.returns-clause-full
returns-clause-full c = full_hidden

pub returns-clause-hid : goal.returns-clause-hid
returns-clause-hid c = hid_else
