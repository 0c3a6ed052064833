-- The first of the hits so far.
use Rattle.std.proofs.Common.{filter, map, take}
use Rattle.chew_spec_phrasing.specs.CombinedRows.{as_shown, is_shown}
use Rattle.chew_phrasing.specs.Least.{IsLeast, keeps}
use Rattle.chew_phrasing.proofs.first_row.first_found.Given as goal

abbrev pub invariant-loop-hit : goal.invariant-loop-hit
invariant-loop-hit l = IsLeast (keeps l.choices l.at) (map as_shown (filter is_shown (take l.hit-index l.found))) l.first
