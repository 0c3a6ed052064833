-- Each law is a lemma.
use Rattle.chew_spec_layers.proofs.Steps.{frozen_by_stands, frozen_keeps, frozen_newly, install_legal, install_stands}
use Rattle.chew_spec_layers.proofs.laws.steps.calls_of_the_keeper.Goals as goal

pub returns-clause-freeze : goal.returns-clause-freeze
returns-clause-freeze c = frozen_by_stands

pub returns-clause-newly : goal.returns-clause-newly
returns-clause-newly c = frozen_newly

pub returns-clause-again : goal.returns-clause-again
returns-clause-again c = frozen_keeps

pub returns-clause-install : goal.returns-clause-install
returns-clause-install c = install_stands

pub returns-clause-legal : goal.returns-clause-legal
returns-clause-legal c = install_legal
