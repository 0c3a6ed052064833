-- The greatest of all segmentations, which nothing else is.
use Rattle.chew_spec_phrasing.proofs.Best.{IsBest-from_best_of, IsBest-unique, best_of-from_IsBest, best_of-from_none, no_segmentation-from_best_of}
use Rattle.chew_spec_phrasing.proofs.Usable.{GivesOwn-piece_at}
use Rattle.chew_spec_phrasing.proofs.laws.best_is_unbeaten.Goals as goal

pub returns-clause-some : goal.returns-clause-some
returns-clause-some c rows breaks choices n best own = (
  IsBest-from_best_of rows breaks choices n best (GivesOwn-piece_at rows breaks choices own),
  best_of-from_IsBest rows breaks choices n best (GivesOwn-piece_at rows breaks choices own),
)

pub returns-clause-none : goal.returns-clause-none
returns-clause-none c rows breaks choices n own = (
  λ e pieces. no_segmentation-from_best_of rows breaks choices n pieces e,
  best_of-from_none rows breaks choices n (GivesOwn-piece_at rows breaks choices own),
)

pub returns-clause-unique : goal.returns-clause-unique
returns-clause-unique c = IsBest-unique
