-- By the piece that has the choice's first cell.
use Rattle.chew_spec_phrasing.proofs.Chosen.{shown-IsSegmentation}
use Rattle.chew_spec_phrasing.proofs.laws.choices_are_shown.Goals as goal

pub returns : goal.returns
returns c = record { shown = shown-IsSegmentation }
