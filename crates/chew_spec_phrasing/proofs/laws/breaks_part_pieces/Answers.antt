-- By the piece that has the break's place.
use Rattle.chew_spec_phrasing.proofs.Parted.{parted-IsSegmentation}
use Rattle.chew_spec_phrasing.proofs.laws.breaks_part_pieces.Goals as goal

pub returns : goal.returns
returns c = record { parted = parted-IsSegmentation }
