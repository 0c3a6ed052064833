-- By the first piece.
use Rattle.std.proofs.Common.{subst, sym}
use Rattle.chew_spec_phrasing.specs.Segmentation.{IsSegmentation}
use Rattle.chew_spec_phrasing.proofs.Search.{HasFirst-from_IsSegmentation, IsSegmentation-from_HasFirst, IsSegmentation-none, best_of-from_Improves, none_from_IsSegmentation}
use Rattle.chew_spec_phrasing.proofs.Usable.{GivesOwn-piece_at}
use Rattle.chew_spec_phrasing.proofs.laws.segmentations_by_first_piece.Goals as goal

pub returns-clause-first : goal.returns-clause-first
returns-clause-first c usable own start n pieces l =
    (HasFirst-from_IsSegmentation usable start n pieces l, IsSegmentation-from_HasFirst usable own start n pieces)

pub returns-clause-none : goal.returns-clause-none
returns-clause-none c usable start pieces =
    (none_from_IsSegmentation usable start pieces, λ e. subst (IsSegmentation usable start 0) (sym e) (IsSegmentation-none usable start))

pub returns-clause-best : goal.returns-clause-best
returns-clause-best c rows breaks choices n held own = best_of-from_Improves rows breaks choices n held (GivesOwn-piece_at rows breaks choices own)
