-- Whatever the system is.
use Rattle.std.proofs.Common.{rules}
use Rattle.chew_spec_editor.specs.Press.{edit, press_delete}
use Rattle.chew_editor.proofs.edit_keys.press_delete.Goals as goal

pub returns-then-cursor-cell_count-clause-ok : goal.returns-then-cursor-cell_count-clause-ok
unfolding press_delete edit
returns-then-cursor-cell_count-clause-ok c system = let h = c.edit.ensures.ok system in search rules
