-- The texts of the syllables so far stand there.
use Rattle.std.proofs.Common.{◌≡◌, ◌++◌, take}
use Rattle.std.specs.Prelude.{flat_map}
use Rattle.chew_spec_text.specs.RowText.{spaced}
use Rattle.chew_rows.proofs.rows_printer.push_syllables.Given as goal

abbrev pub invariant-loop-syllable : goal.invariant-loop-syllable
invariant-loop-syllable l = l.text.items ≡ l.initial.text.items ++ flat_map spaced (take l.syllable-index l.syllables)
