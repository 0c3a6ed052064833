-- Words for the laws of Hsu and ET26.
use Rattle.std.specs.Prelude.{◌≡◌, ℕ, ◌<◌, List, [], ◌∷◌, ◌++◌, codes, filter, flat_map, length, nat_lt, slice_get, Option, Some, IsTrue}
use Rattle.std.specs.Option.{option_map_or}
use Rattle.chew_spec_syllable.specs.Syllable.{Parts}
use Rattle.chew_spec_syllable.specs.SyllableText.{text_of}
use Rattle.chew_spec_layout.specs.Letters.{Taken, fits, parts_taken, is_reading, fed_letters, numbers_of, reading_of}
use Rattle.chew_spec_layout.specs.Step.{Step}
use Rattle.chew_spec_layout.specs.Table.{Columns}

-- what each of the keys did, one after another
abbrev pub letter_steps : Columns → List ℕ → List ℕ → List Step
letter_steps columns held [] = []
letter_steps columns held (key ∷ keys) = (fed_letters columns held key).step ∷ letter_steps columns (fed_letters columns held key).held keys

-- the marks that the letters are read as; `-` where they are read as nothing
abbrev pub read_text : Columns → List ℕ → List ℕ
read_text columns held = option_map_or text_of (reading_of columns held) (codes "-")

-- the same of a letter with each of the rests behind it
abbrev pub read_with : Columns → List ℕ → List (List ℕ) → List ℕ
read_with columns letter rests = flat_map (λ rest. read_text columns (letter ++ rest)) rests

-- the letters of ㄧ, ㄨ, ㄩ, ㄤ, ㄧㄤ and ㄨㄤ on each layout
abbrev pub hsu_rests : List (List ℕ)
hsu_rests = codes "e" ∷ (codes "x" ∷ (codes "u" ∷ (codes "k" ∷ (codes "ek" ∷ (codes "xk" ∷ [])))))

abbrev pub et26_rests : List (List ℕ)
et26_rests = codes "e" ∷ (codes "x" ∷ (codes "u" ∷ (codes "t" ∷ (codes "et" ∷ (codes "xt" ∷ [])))))

-- the places of a column whose letter stands there more than once
abbrev pub repeated : List ℕ → List ℕ
repeated column = filter (λ letter. nat_lt 1 (length (numbers_of column letter))) column

-- the letter that is taken for a part; `-` for none
abbrev pub letter_taken : Option ℕ → List ℕ
letter_taken taken = option_map_or (λ letter. letter ∷ []) taken (codes "-")

-- a pattern: the letters that are taken for an initial, a medial and a final
abbrev pub pattern_text : Taken → List ℕ
pattern_text taken = letter_taken taken.initial ++ (letter_taken taken.medial ++ letter_taken taken.final)

-- the pattern at this place fits, and is read as these parts, which are valid
pub record IsReading (columns : Columns) (patterns : List Taken) (place : ℕ) (parts : Parts) : Type 0 where
  pub taken : Taken
  pub pattern : slice_get patterns place ≡ Some taken
  pub fits : IsTrue (fits columns taken)
  pub read_as : parts_taken columns taken ≡ parts
  pub valid : IsTrue (is_reading parts)

-- the pattern at this place is read so, and none before it is read at all
pub record IsFirstReading (columns : Columns) (patterns : List Taken) (place : ℕ) (parts : Parts) : Type 0 where
  pub reading : IsReading columns patterns place parts
  pub first : (earlier : ℕ) (other : Parts) → earlier < place → IsReading columns patterns earlier other → ⊥
