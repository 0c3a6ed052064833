-- A window at its first page is one.
use Rattle.chew_spec_preedit.proofs.Windows.{is_window-opened}
use Rattle.chew_candidates.proofs.window.Window.show.Goals as goal

pub invariant_of-result : goal.invariant_of-result
invariant_of-result c = is_window-opened c.args.place c.args.lists.items c.args.page c.requires.falling c.requires.filled c.requires.some c.requires.one c.requires.ten
