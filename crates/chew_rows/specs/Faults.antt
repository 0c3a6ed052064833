-- The definition's causes that the code's stand for, and the fault that is told.
use Rattle.std.specs.Prelude.{◌≡◌, ℕ, Result, Err}
use Rattle.std.specs.Bool.{⊤}
use Rattle.chew_spec_text.specs.DictionaryText as spec
use Rattle.chew_spec_text.specs.Lines.{Fault}
use Rattle.chew_rows.specs.declared.cause.RowCause.{RowCause}
use Rattle.chew_rows.specs.declared.cause.RowCause.TheVariants.{Size, Phrase, Frequency, Syllable, Lengths, Twice, Rows}
use Rattle.chew_rows.specs.declared.cause.RowsFault.{RowsFault}
use Rattle.chew_rows.specs.declared.cause.RowsFault.TheVariants.{Bad, NoMemory}

-- the definition's cause
abbrev pub cause_of : RowCause → spec.RowCause
cause_of Size = spec.Size
cause_of Phrase = spec.Phrase
cause_of Frequency = spec.Frequency
cause_of Syllable = spec.Syllable
cause_of Lengths = spec.Lengths
cause_of Twice = spec.Twice
cause_of Rows = spec.Rows

-- the fault that is told of a text is the one that it has; for the want of memory nothing is said
abbrev pub IsFaultOf : {V : Type 0} → Result V (Fault spec.RowCause) → RowsFault → Type 0
IsFaultOf outcome (Bad line cause) = outcome ≡ Err (record { line = line; cause = cause_of cause })
IsFaultOf outcome NoMemory = ⊤

-- the same of the line of this number
abbrev pub IsFaultOfLine : {V : Type 0} → ℕ → Result V spec.RowCause → RowsFault → Type 0
IsFaultOfLine number outcome (Bad line cause) = (line ≡ number) × (outcome ≡ Err (cause_of cause))
IsFaultOfLine number outcome NoMemory = ⊤
