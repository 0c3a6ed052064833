use Rattle.chew_spec_editor.proofs.BestKept.{IsPhrased-empty, talk-phrased}
use Rattle.chew_spec_editor.proofs.laws.whole_talks.shown_pieces_stay_the_best.Goals as goal

pub returns : goal.returns
returns c = record { empty = IsPhrased-empty; talk = talk-phrased }
