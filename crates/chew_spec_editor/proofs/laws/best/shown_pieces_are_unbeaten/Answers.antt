use Rattle.chew_spec_editor.proofs.BestKept.{asked-best}
use Rattle.chew_spec_editor.proofs.laws.best.shown_pieces_are_unbeaten.Goals as goal

pub returns : goal.returns
returns c = asked-best
