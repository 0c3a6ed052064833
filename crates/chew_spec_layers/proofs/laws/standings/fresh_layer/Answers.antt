-- The law is a lemma.
use Rattle.chew_spec_layers.proofs.Standings.{fresh_pairs}
use Rattle.chew_spec_layers.proofs.laws.standings.fresh_layer.Goals as goal

pub returns : goal.returns
returns c = record { pairs = fresh_pairs }
