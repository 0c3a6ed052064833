-- By what each line keeps.
use Rattle.chew_spec_text.proofs.Rows.{rows_proper}
use Rattle.chew_spec_text.proofs.laws.dictionary_text.rows_of_a_text.Goals as goal

pub returns : goal.returns
returns c = record {
  rows = λ text rows h. (rows_proper text rows h).all;
  no_pair_twice = λ text rows h. (rows_proper text rows h).once;
  few = λ text rows h. (rows_proper text rows h).few;
}
