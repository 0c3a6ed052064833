-- Step by step.
use Rattle.chew_spec_preedit.proofs.Pages.{first-page, lists-follow, longest-list, pages-follow}
use Rattle.chew_spec_preedit.proofs.laws.windows.moves_go_round.Goals as goal

pub returns-clause-pages : goal.returns-clause-pages
returns-clause-pages c = pages-follow

pub returns-clause-first : goal.returns-clause-first
returns-clause-first c = first-page

pub returns-clause-lists : goal.returns-clause-lists
returns-clause-lists c = lists-follow

pub returns-clause-longest : goal.returns-clause-longest
returns-clause-longest c = longest-list
