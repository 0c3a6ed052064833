-- Where no pair stands twice among them, the rows so far and the lines that are left make what the text makes.
use Rattle.std.proofs.Common.{◌≡◌, ℕ, true, length}
use Rattle.chew_spec_syllable.specs.Row.{no_pair_twice}
use Rattle.chew_spec_text.specs.DictionaryText.{dictionary_rows}
use Rattle.chew_text.proofs.LinesTaken.{Leaves}
use Rattle.chew_rows.specs.Lines.{taken}
use Rattle.chew_rows.proofs.whole_reader.rows_as_whole.Given as goal

abbrev pub decreases-lines : goal.decreases-lines
decreases-lines l = length l.lines

abbrev pub invariant-lines : goal.invariant-lines
invariant-lines l = no_pair_twice l.rows.items ≡ true → (number : ℕ) × Leaves taken (dictionary_rows l.text) number l.rows.items l.lines
