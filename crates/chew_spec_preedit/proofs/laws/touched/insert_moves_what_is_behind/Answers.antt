-- What is kept, and what is moved.
use Rattle.chew_spec_preedit.proofs.Touched.{inserted-breaks, inserted-choices}
use Rattle.chew_spec_preedit.proofs.laws.touched.insert_moves_what_is_behind.Goals as goal

pub returns-clause-breaks : goal.returns-clause-breaks
returns-clause-breaks c = inserted-breaks

pub returns-clause-choices : goal.returns-clause-choices
returns-clause-choices c = inserted-choices
