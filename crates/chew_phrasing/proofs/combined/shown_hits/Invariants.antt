-- The shown hits so far, and those to come, are all.
use Rattle.std.proofs.Common.{◌≡◌, ◌++◌, drop, filter, map}
use Rattle.chew_spec_phrasing.specs.CombinedRows.{as_shown, is_shown}
use Rattle.chew_phrasing.proofs.combined.shown_hits.Given as goal

abbrev pub invariant-loop-hit : goal.invariant-loop-hit
invariant-loop-hit l = l.shown.items ++ map as_shown (filter is_shown (drop l.hit-index l.hits)) ≡ map as_shown (filter is_shown l.hits)
