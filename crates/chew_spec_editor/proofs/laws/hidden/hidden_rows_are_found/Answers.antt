use Rattle.chew_spec_editor.proofs.FoundAgain.{hidden-row_found, hides-two, single-not_hidden}
use Rattle.chew_spec_editor.proofs.laws.hidden.hidden_rows_are_found.Goals as goal

pub returns : goal.returns
returns c = record { rows = hidden-row_found; single = single-not_hidden; two = hides-two }
