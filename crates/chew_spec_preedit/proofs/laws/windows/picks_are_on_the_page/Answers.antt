-- By its place among the rows.
use Rattle.chew_spec_preedit.proofs.Pages.{picked-none, picked-some}
use Rattle.chew_spec_preedit.proofs.laws.windows.picks_are_on_the_page.Goals as goal

pub returns-clause-some : goal.returns-clause-some
returns-clause-some c = picked-some

pub returns-clause-none : goal.returns-clause-none
returns-clause-none c = picked-none
