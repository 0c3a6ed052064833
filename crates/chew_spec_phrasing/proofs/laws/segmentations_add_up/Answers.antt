-- By the pieces' own lengths.
use Rattle.chew_spec_phrasing.proofs.Pieces.{Contains-segmentations, IsSegmentation-from_segmentations, IsSegmentation-unique}
use Rattle.chew_spec_phrasing.proofs.laws.segmentations_add_up.Goals as goal

pub returns-clause-all_of_them : goal.returns-clause-all_of_them
returns-clause-all_of_them c usable own n pieces =
    (IsSegmentation-from_segmentations usable own n pieces, Contains-segmentations usable n pieces)

pub returns-clause-lengths : goal.returns-clause-lengths
returns-clause-lengths c usable own n pieces i = (IsSegmentation-from_segmentations usable own n pieces i).adds_up.whole

pub returns-clause-fixed : goal.returns-clause-fixed
returns-clause-fixed c = IsSegmentation-unique
