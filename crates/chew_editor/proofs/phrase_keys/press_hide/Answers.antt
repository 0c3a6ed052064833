-- The hide is the only change.
use Rattle.std.proofs.Common.{rules}
use Rattle.chew_spec_editor.specs.PhraseKeys.{press_about, press_hide}
use Rattle.chew_editor.proofs.phrase_keys.press_hide.Goals as goal

pub returns-in-Ok-clause-ok : goal.returns-in-Ok-clause-ok
unfolding press_hide press_about
returns-in-Ok-clause-ok c system = let h = c.change.ensures.ok system in search rules
