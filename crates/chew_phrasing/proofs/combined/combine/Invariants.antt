-- The rows so far, and those of the starts to come, are all.
use Rattle.std.proofs.Common.{◌≡◌, ◌-◌, ◌++◌, length, flat_map}
use Rattle.std.specs.List.{range_with_len}
use Rattle.chew_phrasing.specs.Combine.{combined_from}
use Rattle.chew_phrasing.proofs.combined.combine.Given as goal

abbrev pub invariant-loop-start : goal.invariant-loop-start
invariant-loop-start g l = l.hits.items ++ flat_map (combined_from (g.L.Lexicon.rows l.system) l.syllables l.user) (range_with_len l.start (length l.syllables - l.start)) ≡ flat_map (combined_from (g.L.Lexicon.rows l.system) l.syllables l.user) (range_with_len 0 (length l.syllables))
