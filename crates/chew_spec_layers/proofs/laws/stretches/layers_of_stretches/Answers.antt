-- Each law is a lemma.
use Rattle.chew_spec_layers.proofs.Stretches.{layer_changed, layer_is_map, layer_of_nothing, layer_unchanged}
use Rattle.chew_spec_layers.proofs.laws.stretches.layers_of_stretches.Goals as goal

pub returns-clause-nothing : goal.returns-clause-nothing
returns-clause-nothing c = layer_of_nothing

pub returns-clause-same : goal.returns-clause-same
returns-clause-same c = layer_unchanged

pub returns-clause-changed : goal.returns-clause-changed
returns-clause-changed c = layer_changed

pub returns-clause-map : goal.returns-clause-map
returns-clause-map c = layer_is_map
