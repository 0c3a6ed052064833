-- The law is a lemma.
use Rattle.chew_spec_dictionary.proofs.Maps.{maps_alike}
use Rattle.chew_spec_dictionary.proofs.laws.maps.maps_by_look_ups.Goals as goal

pub returns : goal.returns
returns c = record { same = maps_alike }
