-- Length by length, backwards.
use Rattle.chew_spec_preedit.proofs.Lists.{lists-falling, lists-filled, lists-which}
use Rattle.chew_spec_preedit.proofs.laws.windows.lists_hold_every_candidate.Goals as goal

pub returns-clause-which : goal.returns-clause-which
returns-clause-which c = lists-which

pub returns-clause-falling : goal.returns-clause-falling
returns-clause-falling c = lists-falling

pub returns-clause-filled : goal.returns-clause-filled
returns-clause-filled c = lists-filled
