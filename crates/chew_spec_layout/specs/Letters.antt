-- Hsu and ET26: each key is a letter, and a letter may stand for an initial, a medial, a final or a tone. The tables
-- and rules are this project's own, after the layouts of these names.
use Rattle.std.specs.Prelude.{ℕ, ◌+◌, Bool, true, not, ◌&&◌, ◌||◌, List, [], ◌∷◌, ◌++◌, length, take, codes, find, filter, map, ◌==◌, ◌-◌, nat_le, is_some, slice_index, Option, Some, None, unwrap_or, if◌then◌else◌}
use Rattle.std.specs.Option.{option_map_or}
use Rattle.std.specs.List.{list_all, range_with_len, last_or}
use Rattle.chew_spec_syllable.specs.Syllable.{Parts, code_of}
use Rattle.chew_spec_layout.specs.Step.{Step, Kept, Whole, Refused, Erased, NotMine}
use Rattle.chew_spec_layout.specs.Table.{Columns, has_key, number_of, space, backspace}

-- the two layouts
pub data Letters : Type 0 where
  Hsu : Letters
  Et26 : Letters

-- the letters of each kind of part, in the order of the parts' numbers; one letter may stand for several parts
abbrev pub letter_columns : Letters → Columns
letter_columns Hsu = record {
  initials = codes "bpmfdtnlgkhjvcjvcrzas";
  medials = codes "exu";
  finals = codes "yhgeiawomnkll";
  tones = codes "sdfj";
}
letter_columns Et26 = record {
  initials = codes "bpmfdtnlvkhgvcgycjqws";
  medials = codes "exu";
  finals = codes "aorwiqzpmntlh";
  tones = codes "dfjk";
}

-- a layout of this kind, and the letters that it holds, as they were typed
pub record Lettered : Type 0 where
  pub kind : Letters
  pub held : List ℕ

-- which of the held letters is taken for which part
pub record Taken : Type 0 where
  pub initial : Option ℕ
  pub medial : Option ℕ
  pub final : Option ℕ

-- what one, two or three letters may be taken for, in the order in which it is tried
abbrev pub takings : List ℕ → List Taken
takings (a ∷ []) =
    record { initial = Some a; medial = None; final = None }
    ∷ (record { initial = None; medial = Some a; final = None }
    ∷ (record { initial = None; medial = None; final = Some a }
    ∷ []))
takings (a ∷ (b ∷ [])) =
    record { initial = Some a; medial = Some b; final = None }
    ∷ (record { initial = Some a; medial = None; final = Some b }
    ∷ (record { initial = None; medial = Some a; final = Some b }
    ∷ []))
takings (a ∷ (b ∷ (c ∷ []))) = record { initial = Some a; medial = Some b; final = Some c } ∷ []
takings _ = []

-- each letter stands for a part of the kind that it is taken for
abbrev pub fits : Columns → Taken → Bool
fits columns taken = option_map_or (has_key columns.initials) taken.initial true
    && (option_map_or (has_key columns.medials) taken.medial true && option_map_or (has_key columns.finals) taken.final true)

-- the numbers of the parts that a letter stands for in a column
abbrev pub numbers_of : List ℕ → ℕ → List ℕ
numbers_of column letter = filter (λ number. slice_index column (number - 1) == letter) (range_with_len 1 (length column))

-- ㄐ, ㄑ and ㄒ; and the medials before which alone they stand, ㄧ and ㄩ
abbrev pub is_palatal : ℕ → Bool
is_palatal initial = nat_le 12 initial && nat_le initial 14

abbrev pub is_front : ℕ → Bool
is_front medial = medial == 1 || (medial == 3)

-- the initial of a letter: of two it is ㄐ, ㄑ or ㄒ exactly where the medial is ㄧ or ㄩ
abbrev pub initial_of : Columns → ℕ → ℕ → ℕ
initial_of columns medial letter =
    unwrap_or (find (λ number. if is_front medial then is_palatal number else not (is_palatal number)) (numbers_of columns.initials letter))
    (number_of columns.initials letter)

-- the letter is the only one, and it is taken for a final
abbrev pub is_final_alone : Taken → Bool
is_final_alone taken = not (is_some taken.initial || is_some taken.medial)

-- the final of a letter: of two it is the last, ㄦ, where the letter is the only one, else the first
abbrev pub final_of : Columns → Bool → ℕ → ℕ
final_of columns alone letter =
    if alone then unwrap_or (last_or None (numbers_of columns.finals letter)) 0 else number_of columns.finals letter

-- the parts that letters stand for, so taken
abbrev pub parts_taken : Columns → Taken → Parts
parts_taken columns taken =
    let medial = option_map_or (number_of columns.medials) taken.medial 0 in
    record {
      initial = option_map_or (initial_of columns medial) taken.initial 0;
      medial = medial;
      final = option_map_or (final_of columns (is_final_alone taken)) taken.final 0;
      tone = 0;
    }

-- the parts are no initial alone, but for ㄓ ㄔ ㄕ ㄖ ㄗ ㄘ ㄙ, which are syllables by themselves
abbrev pub is_reading : Parts → Bool
is_reading parts = nat_le 1 (parts.medial + parts.final) || nat_le 15 parts.initial

-- what the held letters are read as: the first that fits and is a reading
unfoldable pub reading_of : Columns → List ℕ → Option Parts
reading_of columns held = find is_reading (map (parts_taken columns) (filter (fits columns) (takings held)))

-- what a key did, and what is held then
pub record LettersFed : Type 0 where
  pub step : Step
  pub held : List ℕ

-- the letter is one of the layout's
abbrev pub is_letter : Columns → ℕ → Bool
is_letter columns key = has_key columns.initials key || (has_key columns.medials key || has_key columns.finals key)

-- one letter more, where the letters fit then
abbrev pub with_letter : Columns → List ℕ → ℕ → LettersFed
with_letter columns held key =
    if is_some (find (fits columns) (takings (held ++ key ∷ [])))
    then record { step = Kept; held = held ++ key ∷ [] }
    else record { step = Refused; held = held }

-- the syllable of the held letters with this tone, where they have a reading
abbrev pub whole_reading : Columns → List ℕ → ℕ → LettersFed
whole_reading columns held tone =
    option_map_or
    (λ parts. record { step = Whole (code_of (record parts { tone = tone })); held = [] })
    (reading_of columns held) (record { step = Refused; held = held })

-- a key where nothing is held: a tone's key is a letter then
abbrev pub fed_first : Columns → ℕ → LettersFed
fed_first columns key = if is_letter columns key then with_letter columns [] key else record { step = NotMine; held = [] }

-- a key where something is held
abbrev pub fed_next : Columns → List ℕ → ℕ → LettersFed
fed_next columns held key =
    if has_key columns.tones key then whole_reading columns held (number_of columns.tones key)
    else if key == space then whole_reading columns held 0
    else if key == backspace then record { step = Erased; held = take (length held - 1) held }
    else if is_letter columns key then with_letter columns held key
    else record { step = NotMine; held = held }

-- what a key does
unfoldable pub fed_letters : Columns → List ℕ → ℕ → LettersFed
fed_letters columns held key = if length held == 0 then fed_first columns key else fed_next columns held key

-- what every layout of letters keeps of what it holds
abbrev pub are_held_letters : Columns → List ℕ → Bool
are_held_letters columns held = nat_le (length held) 3 && list_all (is_letter columns) held
