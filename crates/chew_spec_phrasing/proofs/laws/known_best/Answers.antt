-- Each best segmentation computes.
use Rattle.std.proofs.Common.{refl}
use Rattle.std.specs.Str.{chars}
use Rattle.chew_spec_phrasing.specs.Best.{best_of}
use Rattle.chew_spec_phrasing.specs.Usable.{piece_at}
use Rattle.chew_spec_phrasing.proofs.laws.known_best.Goals as goal

pub returns-clause-three_and_one : goal.returns-clause-three_and_one
unfolding best_of piece_at chars
returns-clause-three_and_one c = refl

pub returns-clause-two_and_one : goal.returns-clause-two_and_one
unfolding best_of piece_at chars
returns-clause-two_and_one c = refl
