-- Each law is a lemma.
use Rattle.chew_spec_layers.proofs.Touches.{about_itself, about_one, call_leaves, unchanged}
use Rattle.chew_spec_layers.proofs.laws.touches.what_a_call_changes.Goals as goal

pub returns-clause-learn : goal.returns-clause-learn
returns-clause-learn c key phrase orig peak = about_itself key phrase

pub returns-clause-forget : goal.returns-clause-forget
returns-clause-forget c = about_itself

pub returns-clause-hide : goal.returns-clause-hide
returns-clause-hide c = about_itself

pub returns-clause-one : goal.returns-clause-one
returns-clause-one c = about_one

pub returns-clause-same : goal.returns-clause-same
returns-clause-same c = unchanged

pub returns-clause-others : goal.returns-clause-others
returns-clause-others c = call_leaves
