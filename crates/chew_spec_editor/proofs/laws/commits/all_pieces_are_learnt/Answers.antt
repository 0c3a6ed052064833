use Rattle.chew_spec_editor.proofs.Committing.{learns-joined, long-pieces, whole-stretches}
use Rattle.chew_spec_editor.proofs.laws.commits.all_pieces_are_learnt.Goals as goal

pub returns : goal.returns
returns c = record { text = learns-joined; long = long-pieces; whole = whole-stretches }
