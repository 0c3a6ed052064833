use Rattle.chew_spec_editor.proofs.FoundAgain.{found-again, shown-again}
use Rattle.chew_spec_editor.proofs.laws.hidden.learning_shows_again.Goals as goal

pub returns : goal.returns
returns c = record { found = found-again; shown = shown-again }
