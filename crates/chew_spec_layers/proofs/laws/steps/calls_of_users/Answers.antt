-- Each law is a lemma.
use Rattle.chew_spec_layers.proofs.Steps.{forget_stands, full_stands, hide_same_stands, hide_stands, learn_stands, look_stands, new_hide_stands, not_there_stands}
use Rattle.chew_spec_layers.proofs.laws.steps.calls_of_users.Goals as goal

pub returns-clause-look : goal.returns-clause-look
returns-clause-look c = look_stands

pub returns-clause-learn : goal.returns-clause-learn
returns-clause-learn c = learn_stands

pub returns-clause-full : goal.returns-clause-full
returns-clause-full c = full_stands

pub returns-clause-forget : goal.returns-clause-forget
returns-clause-forget c = forget_stands

pub returns-clause-not_there : goal.returns-clause-not_there
returns-clause-not_there c = not_there_stands

pub returns-clause-hide : goal.returns-clause-hide
returns-clause-hide c = hide_stands

pub returns-clause-new_hide : goal.returns-clause-new_hide
returns-clause-new_hide c = new_hide_stands

pub returns-clause-hide_same : goal.returns-clause-hide_same
returns-clause-hide_same c = hide_same_stands
