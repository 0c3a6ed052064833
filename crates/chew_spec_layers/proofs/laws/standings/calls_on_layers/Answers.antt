-- Each law is a lemma.
use Rattle.chew_spec_layers.proofs.Standings.{changed_stands, same_stands, start_stands}
use Rattle.chew_spec_layers.proofs.laws.standings.calls_on_layers.Goals as goal

pub returns-clause-new : goal.returns-clause-new
returns-clause-new c = start_stands

pub returns-clause-same : goal.returns-clause-same
returns-clause-same c = same_stands

pub returns-clause-changed : goal.returns-clause-changed
returns-clause-changed c = changed_stands
