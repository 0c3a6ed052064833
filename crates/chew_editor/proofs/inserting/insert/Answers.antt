-- A buffer that has room takes the item.
use Rattle.std.proofs.Common.{rules}
use Rattle.chew_spec_editor.specs.Press.{edit, insert}
use Rattle.chew_editor.proofs.inserting.insert.Goals as goal

pub returns-clause-ok : goal.returns-clause-ok
unfolding insert edit
returns-clause-ok g c = let h = c.edit.ensures.ok (g.L.Lexicon.rows c.args.system.now) in search rules
