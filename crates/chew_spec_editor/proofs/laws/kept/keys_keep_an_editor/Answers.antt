use Rattle.chew_spec_editor.proofs.Keeping.{is_editor-done, is_editor-empty, is_pending-ask}
use Rattle.chew_spec_editor.proofs.laws.kept.keys_keep_an_editor.Goals as goal

pub returns : goal.returns
returns c = record { empty = is_editor-empty; done = is_editor-done; ask = is_pending-ask }
