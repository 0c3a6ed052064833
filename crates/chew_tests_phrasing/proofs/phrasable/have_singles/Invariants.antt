-- The cells so far are chosen or have rows of their own.
use Rattle.std.proofs.Common.{◌≡◌, ℕ, ◌<◌, true, false}
use Rattle.std.specs.List.{list_any}
use Rattle.chew_spec_phrasing.specs.CanSegment.{cell_at}
use Rattle.chew_spec_phrasing.specs.CombinedRows.{is_hit_at}
use Rattle.chew_spec_phrasing.specs.Usable.{meets}
use Rattle.chew_tests_phrasing.proofs.phrasable.have_singles.Given as goal

abbrev pub invariant-loop-cell : goal.invariant-loop-cell
invariant-loop-cell l = (cell : ℕ) → cell < l.cell → list_any (meets (cell_at cell)) l.choices ≡ false → list_any (is_hit_at (cell_at cell)) l.rows ≡ true
