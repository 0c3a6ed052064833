-- The base is all that the layers hold.
use Rattle.chew_spec_layers.proofs.Needs.{base_is_all}
use Rattle.chew_spec_layers.proofs.laws.needs.needs_of_layers.Goals as goal

pub returns-clause-base : goal.returns-clause-base
returns-clause-base c = base_is_all
