-- The first of one so far and of the system's rows so far.
use Rattle.std.proofs.Common.{◌++◌, filter, map, take, List}
use Rattle.chew_spec_dictionary.specs.Call.{Hit}
use Rattle.chew_spec_phrasing.specs.CombinedRows.{is_free_of, shown_hit}
use Rattle.chew_phrasing.specs.FirstPlace.{rows_between}
use Rattle.chew_phrasing.specs.Least.{IsLeast, keeps}
use Rattle.chew_phrasing.proofs.first_row.walk.Given as goal

abbrev pub invariant-loop-i : goal.invariant-loop-i
invariant-loop-i g l =
    (before : List Hit) → IsLeast (keeps l.choices l.at) before l.fn.first
    → IsLeast (keeps l.choices l.at) (before ++ map (shown_hit l.at) (filter (is_free_of l.found) (take l.i (rows_between (g.L.Lexicon.rows l.system) l.start l.end)))) l.best
