-- The rows so far, and those of the lengths to come, are all of this start.
use Rattle.std.proofs.Common.{◌≡◌, ◌+◌, ◌-◌, ◌++◌, flat_map}
use Rattle.std.specs.List.{range_with_len}
use Rattle.chew_phrasing.specs.Combine.{combined_at, combined_from, interval}
use Rattle.chew_phrasing.proofs.combined.push_from.Given as goal

abbrev pub invariant-loop-len : goal.invariant-loop-len
invariant-loop-len g l = l.hits.items ++ flat_map (λ len. combined_at (g.L.Lexicon.rows l.system) l.run l.user (interval l.start len)) (range_with_len l.len (l.limit + 1 - l.len)) ≡ l.initial.hits.items ++ combined_from (g.L.Lexicon.rows l.system) l.run l.user l.start
