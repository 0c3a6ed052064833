-- The line of a row in the text of a dictionary as it is printed.
use Rattle.std.specs.Prelude.{ℕ, List, ◌∷◌, ◌++◌, flat_map, decimal}
use Rattle.chew_spec_syllable.specs.Row.{Row}
use Rattle.chew_spec_syllable.specs.Syllable.{parts_of}
use Rattle.chew_spec_syllable.specs.SyllableText.{text_of}
use Rattle.chew_spec_text.specs.Line.{with_line_feed}

-- a space, and the text of the code's syllable
abbrev pub spaced : ℕ → List ℕ
spaced code = 32 ∷ text_of (parts_of code)

-- the phrase, the frequency and the texts of the syllables, parted by one space each; the time isn't told
abbrev pub row_text : Row → List ℕ
row_text row = row.phrase ++ (32 ∷ (decimal row.freq ++ flat_map spaced row.key))

-- the lines of rows
abbrev pub rows_text : List Row → List ℕ
rows_text rows = flat_map (λ row. with_line_feed (row_text row)) rows

-- the row as if it had never been learnt
abbrev pub without_time : Row → Row
without_time row = record row { time = 0 }
