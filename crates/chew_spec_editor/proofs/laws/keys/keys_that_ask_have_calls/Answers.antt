use Rattle.chew_spec_editor.proofs.Bells.{some-calls}
use Rattle.chew_spec_editor.proofs.laws.keys.keys_that_ask_have_calls.Goals as goal

pub returns : goal.returns
returns c = some-calls
