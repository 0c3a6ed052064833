-- Each law is a lemma.
use Rattle.chew_spec_layers.proofs.Steps.{forget_answer, freeze_answer, hide_answer, installed_number, learn_answer, look_answer, waiting_number}
use Rattle.chew_spec_layers.proofs.laws.steps.replies_of_layers.Goals as goal

pub returns-clause-look : goal.returns-clause-look
returns-clause-look c = look_answer

pub returns-clause-learn : goal.returns-clause-learn
returns-clause-learn c = learn_answer

pub returns-clause-forget : goal.returns-clause-forget
returns-clause-forget c = forget_answer

pub returns-clause-hide : goal.returns-clause-hide
returns-clause-hide c = hide_answer

pub returns-clause-freeze : goal.returns-clause-freeze
returns-clause-freeze c = freeze_answer

pub returns-clause-installed : goal.returns-clause-installed
returns-clause-installed c = installed_number

pub returns-clause-waiting : goal.returns-clause-waiting
returns-clause-waiting c = waiting_number
