-- The piece that has the cell is found.
use Rattle.chew_spec_preedit.proofs.Shown.{piece-own}
use Rattle.chew_spec_preedit.proofs.laws.shown.each_piece_shows_its_own.Goals as goal

pub returns : goal.returns
returns c = record { own = piece-own }
