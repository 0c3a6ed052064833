-- A character picks.
use Rattle.std.proofs.Common.{rules}
use Rattle.chew_spec_editor.specs.Keys.{press_window}
use Rattle.chew_editor.proofs.window_keys.press_window.Goals as goal

pub returns-in-Char-clause-ok : goal.returns-in-Char-clause-ok
unfolding press_window
returns-in-Char-clause-ok c system = let h = c.press_selection.ensures.ok system in search rules
