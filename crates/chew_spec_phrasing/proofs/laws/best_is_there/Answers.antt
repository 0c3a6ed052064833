-- A choice's cells are a piece, and each other cell is one.
use Rattle.chew_spec_phrasing.proofs.CanSegment.{IsBest-from_CanSegment, best_of-from_CanSegment}
use Rattle.chew_spec_phrasing.proofs.laws.best_is_there.Goals as goal

pub returns-clause-some : goal.returns-clause-some
returns-clause-some c = best_of-from_CanSegment

pub returns-clause-best : goal.returns-clause-best
returns-clause-best c = IsBest-from_CanSegment
