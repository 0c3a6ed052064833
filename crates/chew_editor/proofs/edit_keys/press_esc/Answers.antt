-- Whatever the system is.
use Rattle.std.proofs.Common.{rules}
use Rattle.chew_spec_editor.specs.Press.{edit, press_esc}
use Rattle.chew_editor.proofs.edit_keys.press_esc.Goals as goal

pub returns-clause-ok : goal.returns-clause-ok
unfolding press_esc edit
returns-clause-ok c system = let h = c.edit.ensures.ok system in search rules
