-- Some keys do the same whatever the system is.
use Rattle.std.proofs.Common.{rules}
use Rattle.chew_spec_editor.specs.Keys.{press_plain}
use Rattle.chew_editor.proofs.keys.press_plain.Goals as goal

pub returns-in-Backspace-clause-ok : goal.returns-in-Backspace-clause-ok
unfolding press_plain
returns-in-Backspace-clause-ok g c = let h = c.press_backspace.ensures.ok (g.L.Lexicon.rows c.args.system.now) in search rules

pub returns-in-Esc-clause-ok : goal.returns-in-Esc-clause-ok
unfolding press_plain
returns-in-Esc-clause-ok g c = let h = c.press_esc.ensures.ok (g.L.Lexicon.rows c.args.system.now) in search rules
