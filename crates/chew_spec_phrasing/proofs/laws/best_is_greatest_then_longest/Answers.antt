-- The order is a total one, and the best is the greatest by it.
use Rattle.chew_spec_phrasing.proofs.Best.{longer-IsBest, score-IsBest, segmentation_cmp_total}
use Rattle.chew_spec_phrasing.proofs.laws.best_is_greatest_then_longest.Goals as goal

pub returns-clause-order : goal.returns-clause-order
returns-clause-order c = segmentation_cmp_total

pub returns-clause-greatest : goal.returns-clause-greatest
returns-clause-greatest c = score-IsBest

pub returns-clause-longest : goal.returns-clause-longest
returns-clause-longest c = longer-IsBest
