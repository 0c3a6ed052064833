-- The rows so far and the lines that are left make what the text makes.
use Rattle.std.proofs.Common.{◌+◌, ◌≤◌, length}
use Rattle.chew_spec_text.specs.DictionaryText.{dictionary_rows}
use Rattle.chew_text.proofs.LinesTaken.{Leaves}
use Rattle.chew_rows.specs.Lines.{taken}
use Rattle.chew_rows.specs.Pairs.{HasPairsOf}
use Rattle.chew_rows.proofs.line_reader.rows_by_line.Given as goal

abbrev pub decreases-lines : goal.decreases-lines
decreases-lines l = length l.lines

abbrev pub invariant-lines : goal.invariant-lines
invariant-lines l = record {
  read : Leaves taken (dictionary_rows l.text) l.number l.rows.items l.lines;
  counted : l.number + length l.lines ≤ length l.text + 1;
  pairs : HasPairsOf l.rows.items l.pairs;
}
