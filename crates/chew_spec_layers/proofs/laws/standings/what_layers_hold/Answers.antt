-- Each law is a lemma.
use Rattle.chew_spec_layers.proofs.Standings.{dictionary_held, map_held, pair_held}
use Rattle.chew_spec_layers.proofs.laws.standings.what_layers_hold.Goals as goal

pub returns-clause-map : goal.returns-clause-map
returns-clause-map c = map_held

pub returns-clause-dictionary : goal.returns-clause-dictionary
returns-clause-dictionary c = dictionary_held

pub returns-clause-pair : goal.returns-clause-pair
returns-clause-pair c = pair_held
