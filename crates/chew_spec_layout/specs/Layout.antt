-- Any of the five layouts, and what each key does to it.
use Rattle.std.specs.Prelude.{ℕ, Bool, List, [], length, nat_lt}
use Rattle.chew_spec_syllable.specs.Syllable.{Parts}
use Rattle.chew_spec_syllable.specs.SyllableText.{text_of}
use Rattle.chew_spec_layout.specs.Table.{is_held, Table, columns_of, fed, holds_something, nothing_held}
use Rattle.chew_spec_layout.specs.Letters as letter
use Rattle.chew_spec_layout.specs.Letters.{Letters, letter_columns, fed_letters, are_held_letters}
use Rattle.chew_spec_layout.specs.Pinyin.{fed_spelling, is_held_spelling}
use Rattle.chew_spec_layout.specs.Step.{Step}
use Rattle.chew_spec_layout.specs.Table as table

-- the layouts by their names
pub data Kind : Type 0 where
  Standard : Kind
  Eten : Kind
  Hsu : Kind
  Et26 : Kind
  Pinyin : Kind

-- a layout, and what it holds: parts of a syllable, or letters as they were typed
pub data Layout : Type 0 where
  ByParts : (table : Table) (held : Parts) → Layout
  ByLetters : (kind : Letters) (held : List ℕ) → Layout
  BySpelling : (held : List ℕ) → Layout

-- a layout of this kind that holds nothing
abbrev pub new_layout : Kind → Layout
new_layout Standard = ByParts table.Standard nothing_held
new_layout Eten = ByParts table.Eten nothing_held
new_layout Hsu = ByLetters letter.Hsu []
new_layout Et26 = ByLetters letter.Et26 []
new_layout Pinyin = BySpelling []

-- the kind of a layout, whatever it holds
abbrev pub kind_in : Layout → Kind
kind_in (ByParts table.Standard held) = Standard
kind_in (ByParts table.Eten held) = Eten
kind_in (ByLetters letter.Hsu held) = Hsu
kind_in (ByLetters letter.Et26 held) = Et26
kind_in (BySpelling held) = Pinyin

-- what a key did, and the layout then
pub record LayoutFed : Type 0 where
  pub step : Step
  pub layout : Layout

-- what a key does
abbrev pub feed : Layout → ℕ → LayoutFed
feed (ByParts table held) key =
    let turn = fed (columns_of table) held key in record { step = turn.step; layout = ByParts table turn.held }
feed (ByLetters kind held) key =
    let turn = fed_letters (letter_columns kind) held key in record { step = turn.step; layout = ByLetters kind turn.held }
feed (BySpelling held) key =
    let turn = fed_spelling held key in record { step = turn.step; layout = BySpelling turn.held }

-- the layout without what it holds
abbrev pub cleared : Layout → Layout
cleared (ByParts table held) = ByParts table nothing_held
cleared (ByLetters kind held) = ByLetters kind []
cleared (BySpelling held) = BySpelling []

-- whether it holds anything
abbrev pub holds : Layout → Bool
holds (ByParts table held) = holds_something held
holds (ByLetters kind held) = nat_lt 0 (length held)
holds (BySpelling held) = nat_lt 0 (length held)

-- what it shows: the marks of the held parts, or the held letters
abbrev pub shown : Layout → List ℕ
shown (ByParts table held) = text_of held
shown (ByLetters kind held) = held
shown (BySpelling held) = held

-- what it holds is in the range of its kind
abbrev pub is_layout : Layout → Bool
is_layout (ByParts table held) = is_held held
is_layout (ByLetters kind held) = are_held_letters (letter_columns kind) held
is_layout (BySpelling held) = is_held_spelling held
