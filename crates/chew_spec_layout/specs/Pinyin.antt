-- Pinyin: a syllable is spelled by letters, and ended by the digit of its tone or by Space. The tones' keys are this
-- project's own.
use Rattle.std.specs.Prelude.{ℕ, ◌-◌, Bool, ◌&&◌, ◌||◌, List, [], ◌∷◌, ◌++◌, length, take, ◌==◌, nat_le, nat_lt, slice_index, if◌then◌else◌}
use Rattle.std.specs.Option.{option_map_or}
use Rattle.std.specs.List.{list_all}
use Rattle.chew_spec_syllable.specs.Syllable.{code_of}
use Rattle.chew_spec_syllable.specs.SyllableText.{front_parts}
use Rattle.chew_spec_layout.specs.Spellings.{spelling_of}
use Rattle.chew_spec_layout.specs.Step.{Step, Kept, Whole, Refused, Erased, NotMine}
use Rattle.chew_spec_layout.specs.Table.{space, backspace}

-- what a key did, and what is held then
pub record SpellingFed : Type 0 where
  pub step : Step
  pub held : List ℕ

abbrev pub is_pinyin_letter : ℕ → Bool
is_pinyin_letter key = nat_le 97 key && nat_le key 122

-- the digits 1 to 5, and Space, which is as 1
abbrev pub is_tone_key : ℕ → Bool
is_tone_key key = (nat_le 49 key && nat_le key 53) || (key == space)

-- the tone of a digit, 1 to 5: the first tone, ˊ, ˇ, ˋ and ˙
abbrev pub tone_of : ℕ → ℕ
tone_of key = if key == space then 0 else slice_index (0 ∷ 2 ∷ 3 ∷ 4 ∷ 1 ∷ []) (key - 49)

-- at most six letters are held
abbrev pub with_spelling_letter : List ℕ → ℕ → SpellingFed
with_spelling_letter held key =
    if nat_lt (length held) 6
    then record { step = Kept; held = held ++ key ∷ [] }
    else record { step = Refused; held = held }

-- the syllable that the held letters spell, with this tone
abbrev pub whole_spelling : List ℕ → ℕ → SpellingFed
whole_spelling held tone =
    option_map_or
    (λ spelling. record { step = Whole (code_of (record (front_parts spelling.marks) { tone = tone })); held = [] })
    (spelling_of held) (record { step = Refused; held = held })

-- what a key does
unfoldable pub fed_spelling : List ℕ → ℕ → SpellingFed
fed_spelling held key =
    if is_pinyin_letter key then with_spelling_letter held key
    else if length held == 0 then record { step = NotMine; held = held }
    else if is_tone_key key then whole_spelling held (tone_of key)
    else if key == backspace then record { step = Erased; held = take (length held - 1) held }
    else record { step = NotMine; held = held }

-- what the layout keeps of what it holds
abbrev pub is_held_spelling : List ℕ → Bool
is_held_spelling held = nat_le (length held) 6 && list_all is_pinyin_letter held
