-- What is kept, and what is moved.
use Rattle.chew_spec_preedit.proofs.Touched.{backspaced-deleted, deleted-breaks, deleted-choices}
use Rattle.chew_spec_preedit.proofs.laws.touched.delete_moves_what_is_behind.Goals as goal

pub returns-clause-breaks : goal.returns-clause-breaks
returns-clause-breaks c = deleted-breaks

pub returns-clause-choices : goal.returns-clause-choices
returns-clause-choices c = deleted-choices

pub returns-clause-back : goal.returns-clause-back
returns-clause-back c = backspaced-deleted
