-- The lines of the rows so far stand there.
use Rattle.std.proofs.Common.{◌≡◌, take}
use Rattle.chew_spec_text.specs.RowText.{rows_text}
use Rattle.chew_rows.proofs.rows_printer.print_rows.Given as goal

abbrev pub invariant-loop-row : goal.invariant-loop-row
invariant-loop-row l = l.text.items ≡ rows_text (take l.row-index l.rows)
