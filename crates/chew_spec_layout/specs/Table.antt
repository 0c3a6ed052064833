-- The default layout and Eten: each key is one part of a syllable, or its tone. Source: the published
-- assignments of the two layouts.
use Rattle.std.specs.Prelude.{ℕ, suc, ◌+◌, Bool, ◌&&◌, List, codes, position, ◌==◌, nat_le, nat_lt, is_some, if◌then◌else◌}
use Rattle.std.specs.Option.{option_map_or}
use Rattle.chew_spec_syllable.specs.Syllable.{Parts, code_of}
use Rattle.chew_spec_layout.specs.Step.{Step, Kept, Whole, Refused, Erased, NotMine}

-- the two layouts
pub data Table : Type 0 where
  Standard : Table
  Eten : Table

-- the keys of each kind of part, in the order of the parts' numbers
pub record Columns : Type 0 where
  pub initials : List ℕ
  pub medials : List ℕ
  pub finals : List ℕ
  pub tones : List ℕ

abbrev pub columns_of : Table → Columns
columns_of Standard = record {
  initials = codes "1qaz2wsxedcrfv5tgbyhn";
  medials = codes "ujm";
  finals = codes "8ik,9ol.0p;/-";
  tones = codes "7634";
}
columns_of Eten = record {
  initials = codes "bpmfdtnlvkhg7c,./j;'s";
  medials = codes "exu";
  finals = codes "aorwiqzy890-=";
  tones = codes "1234";
}

-- whether the key stands in the column, and its part's number, counted from 1
abbrev pub has_key : List ℕ → ℕ → Bool
has_key column key = is_some (position (λ k. k == key) column)

abbrev pub number_of : List ℕ → ℕ → ℕ
number_of column key = option_map_or suc (position (λ k. k == key) column) 0

-- nothing; what is held has no tone
abbrev pub nothing_held : Parts
nothing_held = record { initial = 0; medial = 0; final = 0; tone = 0 }

abbrev pub holds_something : Parts → Bool
holds_something held = nat_lt 0 (held.initial + held.medial + held.final)

-- what a layout keeps of the parts that it holds: each is in its range, and there is no tone yet
abbrev pub is_held : Parts → Bool
is_held held = nat_le held.initial 21 && (nat_le held.medial 3 && (nat_le held.final 13 && (held.tone == 0)))

-- one of the two layouts, and what it holds
pub record Direct : Type 0 where
  pub table : Table
  pub held : Parts

-- what a key did, and what is held then
pub record Fed : Type 0 where
  pub step : Step
  pub held : Parts

-- what is held is a whole syllable with this tone, where something is held
abbrev pub whole_or : Step → Parts → ℕ → Fed
whole_or otherwise held tone =
    if holds_something held
    then record { step = Whole (code_of (record held { tone = tone })); held = nothing_held }
    else record { step = otherwise; held = held }

-- without the final, else without the medial, else without the initial
abbrev pub without_last : Parts → Parts
without_last held =
    if nat_lt 0 held.final then record held { final = 0 }
    else if nat_lt 0 held.medial then record held { medial = 0 }
    else record held { initial = 0 }

abbrev pub erased : Parts → Fed
erased held =
    if holds_something held
    then record { step = Erased; held = without_last held }
    else record { step = NotMine; held = held }

-- the key Space and the key Backspace
abbrev pub space : ℕ
space = 32

abbrev pub backspace : ℕ
backspace = 8

-- a part's key sets that part, in place of an earlier one of its kind; a tone or Space ends the syllable
unfoldable pub fed : Columns → Parts → ℕ → Fed
fed columns held key =
    if has_key columns.initials key then record { step = Kept; held = record held { initial = number_of columns.initials key } }
    else if has_key columns.medials key then record { step = Kept; held = record held { medial = number_of columns.medials key } }
    else if has_key columns.finals key then record { step = Kept; held = record held { final = number_of columns.finals key } }
    else if has_key columns.tones key then whole_or Refused held (number_of columns.tones key)
    else if key == space then whole_or NotMine held 0
    else if key == backspace then erased held
    else record { step = NotMine; held = held }
