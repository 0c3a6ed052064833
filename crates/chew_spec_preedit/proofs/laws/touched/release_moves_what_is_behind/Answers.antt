-- What is moved.
use Rattle.chew_spec_preedit.proofs.Touched.{released-breaks, released-choices}
use Rattle.chew_spec_preedit.proofs.laws.touched.release_moves_what_is_behind.Goals as goal

pub returns-clause-breaks : goal.returns-clause-breaks
returns-clause-breaks c = released-breaks

pub returns-clause-choices : goal.returns-clause-choices
returns-clause-choices c = released-choices
