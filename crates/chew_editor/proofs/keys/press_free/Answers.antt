-- Some keys do the same whatever the system is.
use Rattle.std.proofs.Common.{rules}
use Rattle.chew_spec_editor.specs.Keys.{press_free}
use Rattle.chew_editor.proofs.keys.press_free.Goals as goal

pub returns-in-Delete-clause-ok : goal.returns-in-Delete-clause-ok
unfolding press_free
returns-in-Delete-clause-ok g c = let h = c.press_delete.ensures.ok (g.L.Lexicon.rows c.args.system.now) in search rules

pub returns-in-Tab-clause-ok : goal.returns-in-Tab-clause-ok
unfolding press_free
returns-in-Tab-clause-ok g c = let h = c.press_tab.ensures.ok (g.L.Lexicon.rows c.args.system.now) in search rules

pub returns-in-Forget-clause-ok : goal.returns-in-Forget-clause-ok
unfolding press_free
returns-in-Forget-clause-ok g c = let h = c.press_forget.ensures.ok (g.L.Lexicon.rows c.args.system.now) in search rules

pub returns-in-Hide-clause-ok : goal.returns-in-Hide-clause-ok
unfolding press_free
returns-in-Hide-clause-ok g c = let h = c.press_hide.ensures.ok (g.L.Lexicon.rows c.args.system.now) in search rules
