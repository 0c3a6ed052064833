-- A page of a list is left.
use Rattle.chew_spec_preedit.proofs.Pages.{back-next, next-back}
use Rattle.chew_spec_preedit.proofs.Windows.{is_window-next_page, is_window-opened, is_window-page_before, is_window-shorter}
use Rattle.chew_spec_preedit.proofs.laws.windows.moves_leave_a_window.Goals as goal

pub returns-clause-opened : goal.returns-clause-opened
returns-clause-opened c = is_window-opened

pub returns-clause-shorter : goal.returns-clause-shorter
returns-clause-shorter c = is_window-shorter

pub returns-clause-next : goal.returns-clause-next
returns-clause-next c = is_window-next_page

pub returns-clause-before : goal.returns-clause-before
returns-clause-before c = is_window-page_before

pub returns-clause-back : goal.returns-clause-back
returns-clause-back c = back-next

pub returns-clause-on : goal.returns-clause-on
returns-clause-on c = next-back
