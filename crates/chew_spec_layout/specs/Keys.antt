-- Words for the laws of the two layouts.
use Rattle.std.specs.Prelude.{ℕ, Bool, true, not, ◌&&◌, List, [], ◌∷◌, ◌++◌, ◌==◌}
use Rattle.std.specs.List.{list_any}
use Rattle.chew_spec_syllable.specs.Syllable.{Parts, parts_of}
use Rattle.chew_spec_syllable.specs.SyllableText.{text_of}
use Rattle.chew_spec_layout.specs.Step.{Step, Whole}
use Rattle.chew_spec_layout.specs.Table.{Columns, fed, nothing_held}

-- no key stands twice
abbrev pub no_key_twice : List ℕ → Bool
no_key_twice [] = true
no_key_twice (key ∷ keys) = not (list_any (λ other. other == key) keys) && no_key_twice keys

-- the keys of all columns
abbrev pub all_keys : Columns → List ℕ
all_keys columns = columns.initials ++ (columns.medials ++ (columns.finals ++ columns.tones))

-- what each of the keys did, one after another
abbrev pub steps : Columns → Parts → List ℕ → List Step
steps columns held [] = []
steps columns held (key ∷ keys) = (fed columns held key).step ∷ steps columns (fed columns held key).held keys

-- the text of what the key leaves held, where nothing was
abbrev pub mark_of : Columns → ℕ → List ℕ
mark_of columns key = text_of (fed columns nothing_held key).held

-- the text of the syllable that is whole
abbrev pub whole_text : Step → List ℕ
whole_text (Whole code) = text_of (parts_of code)
whole_text _ = []

-- the text of the syllable that the key makes of ㄅ
abbrev pub toned : Columns → ℕ → List ℕ
toned columns key = whole_text (fed columns (record { initial = 1; medial = 0; final = 0; tone = 0 }) key).step
