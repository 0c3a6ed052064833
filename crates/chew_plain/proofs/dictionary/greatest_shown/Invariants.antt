-- The greatest of those seen, with those to come, is that of all.
use Rattle.std.proofs.Common.{◌≡◌, ◌≤◌, take}
use Rattle.chew_spec_dictionary.specs.HiddenPairs.{shown_rows}
use Rattle.chew_spec_dictionary.specs.System.{greatest}
use Rattle.chew_plain.proofs.dictionary.greatest_shown.Given as goal

abbrev pub invariant-loop-row : goal.invariant-loop-row
invariant-loop-row l = (l.greatest ≡ greatest (shown_rows (take l.row-index l.rows))) × (l.greatest ≤ 99_999_999)
