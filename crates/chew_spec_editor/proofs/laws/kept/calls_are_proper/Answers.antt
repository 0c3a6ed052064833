use Rattle.chew_spec_editor.proofs.Asking.{proper-calls}
use Rattle.chew_spec_editor.proofs.laws.kept.calls_are_proper.Goals as goal

pub returns : goal.returns
returns c = proper-calls
