use Rattle.std.proofs.Common.{◌∙◌, sym}
use Rattle.chew_spec_editor.proofs.Turns.{turn_of-calls}
use Rattle.chew_spec_editor.proofs.laws.turns.calls_are_fixed.Goals as goal

pub returns-clause-asked : goal.returns-clause-asked
returns-clause-asked c = turn_of-calls

pub returns-clause-same : goal.returns-clause-same
returns-clause-same c = λ system editor key replies others turn other first second.
    turn_of-calls system editor key replies turn first ∙ sym (turn_of-calls system editor key others other second)
