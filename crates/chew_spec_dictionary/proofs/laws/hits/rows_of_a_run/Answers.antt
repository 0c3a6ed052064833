-- Each law is a lemma.
use Rattle.chew_spec_dictionary.proofs.Hits.{hit_is_row, row_is_hit}
use Rattle.chew_spec_dictionary.proofs.laws.hits.rows_of_a_run.Goals as goal

pub returns-clause-hit : goal.returns-clause-hit
returns-clause-hit c = hit_is_row

pub returns-clause-row : goal.returns-clause-row
returns-clause-row c = row_is_hit
