-- Each law is a lemma.
use Rattle.chew_spec_dictionary.proofs.Rows.{map_has_no_pair_twice, row_found, rows_sorted, shown_sorted, rows_of_map}
use Rattle.chew_spec_dictionary.proofs.laws.rows.rows_with_no_pair_twice.Goals as goal

pub returns-clause-map : goal.returns-clause-map
returns-clause-map c = map_has_no_pair_twice

pub returns-clause-found : goal.returns-clause-found
returns-clause-found c = row_found

pub returns-clause-phrases : goal.returns-clause-phrases
returns-clause-phrases c = rows_sorted

pub returns-clause-shown : goal.returns-clause-shown
returns-clause-shown c = shown_sorted

pub returns-clause-already : goal.returns-clause-already
returns-clause-already c = rows_of_map
