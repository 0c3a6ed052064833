-- The call is the only change.
use Rattle.std.proofs.Common.{rules}
use Rattle.chew_editor.proofs.changes.change.Goals as goal

pub returns-in-Ok-clause-ok : goal.returns-in-Ok-clause-ok
returns-in-Ok-clause-ok c system = let h = c.asking.ensures.ok system in search rules
