-- Each best segmentation computes; each cell has a row.
use Rattle.std.proofs.Common.{refl}
use Rattle.std.specs.Str.{chars}
use Rattle.chew_spec_phrasing.specs.Best.{best_of}
use Rattle.chew_spec_phrasing.specs.Usable.{piece_at}
use Rattle.chew_spec_phrasing.proofs.Known.{CanSegment-five_hits}
use Rattle.chew_spec_phrasing.proofs.laws.known_choices.Goals as goal

pub returns-clause-parted : goal.returns-clause-parted
unfolding best_of piece_at chars
returns-clause-parted c = refl

pub returns-clause-agrees : goal.returns-clause-agrees
unfolding best_of piece_at chars
returns-clause-agrees c = refl

pub returns-clause-disagrees : goal.returns-clause-disagrees
unfolding best_of piece_at chars
returns-clause-disagrees c = refl

pub returns-clause-chosen : goal.returns-clause-chosen
unfolding best_of piece_at chars
returns-clause-chosen c = refl

pub returns-clause-can : goal.returns-clause-can
returns-clause-can c = CanSegment-five_hits
