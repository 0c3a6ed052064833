-- Each law is a lemma.
use Rattle.chew_spec_layers.proofs.Standings.{base_held, frozen_held, frozen_life, frozen_pairs}
use Rattle.chew_spec_layers.proofs.laws.standings.base_and_what_waits.Goals as goal

pub returns-clause-base : goal.returns-clause-base
returns-clause-base c = base_held

pub returns-clause-map : goal.returns-clause-map
returns-clause-map c = frozen_held

pub returns-clause-life : goal.returns-clause-life
returns-clause-life c = frozen_life

pub returns-clause-pairs : goal.returns-clause-pairs
returns-clause-pairs c = frozen_pairs
