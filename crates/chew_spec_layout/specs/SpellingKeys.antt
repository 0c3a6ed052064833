-- Words for the laws of Pinyin.
use Rattle.std.specs.Prelude.{◌≡◌, ℕ, Bool, true, not, ◌&&◌, List, [], ◌∷◌, ◌++◌, flat_map, codes, bytes_eq, ◌==◌, IsTrue}
use Rattle.std.specs.List.{list_any}
use Rattle.std.specs.Option.{option_map_or}
use Rattle.chew_spec_syllable.specs.Syllable.{is_syllable}
use Rattle.chew_spec_syllable.specs.SyllableText.{front_parts, text_of}
use Rattle.chew_spec_layout.specs.Spelling.{Spelling}
use Rattle.chew_spec_layout.specs.Spellings.{spelling_of}
use Rattle.chew_spec_layout.specs.Pinyin.{fed_spelling}
use Rattle.chew_spec_layout.specs.Step.{Step}

-- no two spellings have the same letters
abbrev pub no_spelling_twice : List Spelling → Bool
no_spelling_twice [] = true
no_spelling_twice (spelling ∷ spellings) =
    not (list_any (λ other. bytes_eq other.letters spelling.letters) spellings) && no_spelling_twice spellings

-- the marks are the text of a syllable in the first tone
abbrev pub spells_syllable : List ℕ → Bool
spells_syllable marks =
    is_syllable (front_parts marks) && (((front_parts marks).tone == 0) && bytes_eq (text_of (front_parts marks)) marks)

-- a spelling by the held letters, and its marks are such a text
pub record IsSpelled (held : List ℕ) (spelling : Spelling) : Type 0 where
  pub letters : spelling.letters ≡ held
  pub syllable : IsTrue (is_syllable (front_parts spelling.marks))
  pub no_tone : (front_parts spelling.marks).tone ≡ 0
  pub text : text_of (front_parts spelling.marks) ≡ spelling.marks

-- what each of the keys did, one after another
abbrev pub spelling_steps : List ℕ → List ℕ → List Step
spelling_steps held [] = []
spelling_steps held (key ∷ keys) = (fed_spelling held key).step ∷ spelling_steps (fed_spelling held key).held keys

-- spellings as a text: the letters of each, and its marks
abbrev pub spellings_text : List Spelling → List ℕ
spellings_text spellings = flat_map (λ spelling. spelling.letters ++ spelling.marks) spellings

-- the letters of the initials
abbrev pub initial_letters : List (List ℕ)
initial_letters =
    codes "b" ∷ (codes "p" ∷ (codes "m" ∷ (codes "f" ∷ (codes "d" ∷ (codes "t" ∷ (codes "g" ∷ (codes "k" ∷ (codes "h"
    ∷ (codes "n" ∷ (codes "l"
    ∷ (codes "j" ∷ (codes "q" ∷ (codes "x"
    ∷ (codes "zh" ∷ (codes "ch" ∷ (codes "sh" ∷ (codes "r" ∷ (codes "z" ∷ (codes "c" ∷ (codes "s" ∷ []))))))))))))))))))))

-- the marks that the letters spell; `-` where they spell nothing
abbrev pub spelled_text : List ℕ → List ℕ
spelled_text letters = option_map_or (λ spelling. spelling.marks) (spelling_of letters) (codes "-")

-- the same of each initial with this ending
abbrev pub with_initials : List ℕ → List ℕ
with_initials ending = flat_map (λ initial. spelled_text (initial ++ ending)) initial_letters
