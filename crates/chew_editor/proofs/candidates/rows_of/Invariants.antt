-- The rows found so far, and those to come.
use Rattle.std.proofs.Common.{◌≡◌, ◌++◌, drop, filter}
use Rattle.chew_spec_phrasing.specs.CombinedRows.{is_hit_at}
use Rattle.chew_editor.proofs.candidates.rows_of.Given as goal

abbrev pub invariant-loop-row : goal.invariant-loop-row
invariant-loop-row l =
    l.found.items ++ filter (is_hit_at (record { start = l.place; len = l.len })) (drop l.row-index l.rows)
    ≡ filter (is_hit_at (record { start = l.place; len = l.len })) l.rows
