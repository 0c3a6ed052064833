-- Page by page.
use Rattle.chew_spec_preedit.proofs.Pages.{on_page-most, on_page-some, pages-all}
use Rattle.chew_spec_preedit.proofs.laws.windows.pages_are_the_list.Goals as goal

pub returns-clause-all : goal.returns-clause-all
returns-clause-all c = pages-all

pub returns-clause-some : goal.returns-clause-some
returns-clause-some c = on_page-some

pub returns-clause-most : goal.returns-clause-most
returns-clause-most c = on_page-most
