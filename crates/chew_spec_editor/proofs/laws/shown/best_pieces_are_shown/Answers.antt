use Rattle.chew_spec_editor.proofs.Phrasing.{finish-best}
use Rattle.chew_spec_editor.proofs.laws.shown.best_pieces_are_shown.Goals as goal

pub returns : goal.returns
returns c = finish-best
