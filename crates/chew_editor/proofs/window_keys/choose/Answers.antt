-- Whatever the system is.
use Rattle.std.proofs.Common.{rules}
use Rattle.chew_spec_editor.specs.Press.{edit}
use Rattle.chew_editor.proofs.window_keys.choose.Goals as goal

pub returns-clause-ok : goal.returns-clause-ok
unfolding edit
returns-clause-ok c system = let h = c.edit.ensures.ok system in search rules
