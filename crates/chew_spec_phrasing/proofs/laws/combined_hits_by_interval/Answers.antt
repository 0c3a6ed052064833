-- By the hits of each interval.
use Rattle.chew_spec_phrasing.proofs.CombinedHits.{combined_hits-hits_of}
use Rattle.chew_spec_phrasing.proofs.SortedHits.{hits_from_sorted}
use Rattle.chew_spec_phrasing.proofs.laws.combined_hits_by_interval.Goals as goal

pub returns-clause-same : goal.returns-clause-same
returns-clause-same c = combined_hits-hits_of

pub returns-clause-sorted : goal.returns-clause-sorted
returns-clause-sorted c = hits_from_sorted
