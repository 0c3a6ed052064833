-- The buffer is empty then.
use Rattle.std.proofs.Common.{rules}
use Rattle.chew_spec_editor.specs.Press.{press_enter}
use Rattle.chew_editor.proofs.committing.press_enter.Goals as goal

pub returns-in-Ok-clause-ok : goal.returns-in-Ok-clause-ok
unfolding press_enter
returns-in-Ok-clause-ok g c = let h = c.asking.ensures.ok (g.L.Lexicon.rows c.args.system.now) in search rules
