-- No change, no text and no note.
use Rattle.std.proofs.Common.{rules}
use Rattle.chew_editor.proofs.edit_keys.edit.Goals as goal

pub returns-clause-ok : goal.returns-clause-ok
returns-clause-ok c system = let h = c.asking.ensures.ok system in search rules
