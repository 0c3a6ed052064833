-- The free rows so far, and those to come, are all of the key.
use Rattle.std.proofs.Common.{◌≡◌, ◌++◌, drop, filter, map}
use Rattle.chew_spec_phrasing.specs.CombinedRows.{shown_hit}
use Rattle.chew_spec_dictionary.specs.System.{rows_of}
use Rattle.chew_spec_phrasing.specs.CombinedRows.{is_free_of}
use Rattle.chew_phrasing.proofs.combined.free_hits.Given as goal

abbrev pub invariant-loop-i : goal.invariant-loop-i
invariant-loop-i g l = l.free.items ++ map (shown_hit l.at) (filter (is_free_of l.own) (drop l.i (rows_of (g.L.Lexicon.rows l.system) l.key))) ≡ map (shown_hit l.at) (filter (is_free_of l.own) (rows_of (g.L.Lexicon.rows l.system) l.key))
