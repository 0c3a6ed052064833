-- Each law is a lemma.
use Rattle.chew_spec_layers.proofs.Stretches.{layer_of_forget, layer_of_hide, layer_of_new_hide, layer_of_learn}
use Rattle.chew_spec_layers.proofs.laws.stretches.marks_of_calls.Goals as goal

pub returns-clause-learn : goal.returns-clause-learn
returns-clause-learn c = layer_of_learn

pub returns-clause-forget : goal.returns-clause-forget
returns-clause-forget c = layer_of_forget

pub returns-clause-hide : goal.returns-clause-hide
returns-clause-hide c = layer_of_hide

pub returns-clause-new_hide : goal.returns-clause-new_hide
returns-clause-new_hide c = layer_of_new_hide
