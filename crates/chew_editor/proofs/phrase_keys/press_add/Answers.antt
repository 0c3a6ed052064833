-- The learn is the only change.
use Rattle.std.proofs.Common.{rules}
use Rattle.chew_spec_editor.specs.PhraseKeys.{press_about, press_add}
use Rattle.chew_editor.proofs.phrase_keys.press_add.Goals as goal

pub returns-in-Ok-clause-ok : goal.returns-in-Ok-clause-ok
unfolding press_add press_about
returns-in-Ok-clause-ok g c = let h = c.change.ensures.ok (g.L.Lexicon.rows c.args.system.now) in search rules
