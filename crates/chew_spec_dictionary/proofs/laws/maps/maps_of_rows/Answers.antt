-- Each law is a lemma.
use Rattle.chew_spec_dictionary.proofs.Once.{map_of_rows, map_in_order, map_answers}
use Rattle.chew_spec_dictionary.proofs.laws.maps.maps_of_rows.Goals as goal

pub returns-clause-map : goal.returns-clause-map
returns-clause-map c = map_of_rows

pub returns-clause-already : goal.returns-clause-already
returns-clause-already c = map_in_order

pub returns-clause-answers : goal.returns-clause-answers
returns-clause-answers c = map_answers
