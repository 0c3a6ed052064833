-- The hits found so far, and those to come, are all of the interval.
use Rattle.std.proofs.Common.{◌≡◌, ◌++◌, drop, filter}
use Rattle.chew_spec_phrasing.specs.CombinedRows.{is_hit_at}
use Rattle.chew_phrasing.proofs.combined.hits_at.Given as goal

abbrev pub invariant-loop-hit : goal.invariant-loop-hit
invariant-loop-hit l = l.found.items ++ filter (is_hit_at l.at) (drop l.hit-index l.user) ≡ filter (is_hit_at l.at) l.user
