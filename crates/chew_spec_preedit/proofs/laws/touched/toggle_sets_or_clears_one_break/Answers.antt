-- One more, or one less.
use Rattle.chew_spec_preedit.proofs.Touched.{broken-breaks, broken-choices, mended-breaks}
use Rattle.chew_spec_preedit.proofs.laws.touched.toggle_sets_or_clears_one_break.Goals as goal

pub returns-clause-set : goal.returns-clause-set
returns-clause-set c = broken-breaks

pub returns-clause-choices : goal.returns-clause-choices
returns-clause-choices c = broken-choices

pub returns-clause-cleared : goal.returns-clause-cleared
returns-clause-cleared c = mended-breaks
