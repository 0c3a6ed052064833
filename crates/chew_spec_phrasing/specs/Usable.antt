-- Which intervals of a run may be pieces, given the combined rows, the breaks and the user's choices.
use Rattle.std.specs.Prelude.{◌≡◌, ℕ, ◌<◌, ◌≤◌, ◌+◌, ◌-◌, Bool, true, false, not, ◌&&◌, List, ◌∷◌, ◌++◌, All, Contains, length, take, drop, find, ◌==◌, nat_lt, nat_le, chars, bytes_eq, Option, Some, None, if◌then◌else◌}
use Rattle.std.specs.Option.{option_map, option_map_or}
use Rattle.std.specs.List.{list_all}
use Rattle.chew_spec_dictionary.specs.Call.{Hit}
use Rattle.chew_spec_dictionary.specs.Look.{Interval}
use Rattle.chew_spec_phrasing.specs.CombinedRows.{is_hit_at}

-- a phrase that the user chose for the cells from start on, with the frequency that it had then
pub record Choice : Type 0 where
  pub start : ℕ
  pub phrase : List ℕ
  pub freq : ℕ

-- a phrase that is shown for the cells from start on
pub record Piece : Type 0 where
  pub start : ℕ
  pub phrase : List ℕ
  pub freq : ℕ

-- how many syllables a phrase is for: one for each character
abbrev pub phrase_len : List ℕ → ℕ
phrase_len phrase = length (chars phrase)

-- each row's phrase has as many characters as the row has syllables
abbrev pub HaveOwnLengths : List Hit → Type 0
HaveOwnLengths rows = All (λ row. phrase_len row.phrase ≡ row.len) rows

-- where an interval ends, and where a choice does
abbrev pub interval_end : Interval → ℕ
interval_end at = at.start + at.len

abbrev pub choice_end : Choice → ℕ
choice_end choice = choice.start + phrase_len choice.phrase

-- no break lies strictly inside
abbrev pub is_unbroken : List ℕ → Interval → Bool
is_unbroken breaks at = list_all (λ place. not (nat_lt at.start place && nat_lt place (interval_end at))) breaks

-- the choice has a cell of the interval; all its cells; exactly its cells
abbrev pub meets : Interval → Choice → Bool
meets at choice = nat_lt choice.start (interval_end at) && nat_lt at.start (choice_end choice)

abbrev pub lies_in : Interval → Choice → Bool
lies_in at choice = nat_le at.start choice.start && nat_le (choice_end choice) (interval_end at)

abbrev pub is_exactly : Interval → Choice → Bool
is_exactly at choice = (choice.start == at.start) && (phrase_len choice.phrase == at.len)

-- a phrase for the interval has the choice's characters at the choice's cells
abbrev pub agrees : Interval → List ℕ → Choice → Bool
agrees at phrase choice =
    bytes_eq (take (phrase_len choice.phrase) (drop (choice.start - at.start) (chars phrase))) (chars choice.phrase)

-- each choice that meets the interval lies inside it, and the phrase agrees with it
abbrev pub keeps_choices : List Choice → Interval → List ℕ → Bool
keeps_choices choices at phrase =
    list_all (λ choice. if meets at choice then lies_in at choice && agrees at phrase choice else true) choices

-- the first combined row of the interval that keeps the choices
abbrev pub first_row : List Hit → List Choice → Interval → Option Hit
first_row rows choices at = find (λ hit. is_hit_at at hit && keeps_choices choices at hit.phrase) rows

abbrev pub piece_of_hit : Hit → Piece
piece_of_hit hit = record { start = hit.start; phrase = hit.phrase; freq = hit.freq }

abbrev pub piece_of_choice : Choice → Piece
piece_of_choice choice = record { start = choice.start; phrase = choice.phrase; freq = choice.freq }

-- the piece of an interval by its rows, which no break may part
abbrev pub piece_by_rows : List Hit → List ℕ → List Choice → Interval → Option Piece
piece_by_rows rows breaks choices at =
    if nat_le at.len 11 && is_unbroken breaks at then option_map piece_of_hit (first_row rows choices at) else None

-- the piece that an interval may be: exactly a choice's has its phrase and its kept frequency, whatever the rows say
unfoldable pub piece_at : List Hit → List ℕ → List Choice → Interval → Option Piece
piece_at rows breaks choices at =
    option_map_or (λ choice. Some (piece_of_choice choice)) (find (is_exactly at) choices) (piece_by_rows rows breaks choices at)

-- the first of a list that passes a test: none before it does
pub record IsFirst {X : Type 0} (p : X → Bool) (xs : List X) (x : X) : Type 0 where
  pub before : List X
  pub after : List X
  pub parts : xs ≡ before ++ (x ∷ after)
  pub passes : p x ≡ true
  pub none_before : All (λ y. p y ≡ false) before

-- what makes a row the piece of an interval: at most 11 syllables, no break strictly inside, and each choice that meets
-- the interval lies in it and has its characters in the row's phrase
pub record IsByRow (rows : List Hit) (breaks : List ℕ) (choices : List Choice) (at : Interval) (piece : Piece) : Type 0 where
  pub row : Hit
  pub among : Contains rows row
  pub starts : row.start ≡ at.start
  pub as_long : row.len ≡ at.len
  pub is : piece ≡ piece_of_hit row
  pub at_most : at.len ≤ 11
  pub unbroken : (place : ℕ) → Contains breaks place → at.start < place → interval_end at ≤ place
  pub lie : (choice : Choice) → Contains choices choice → meets at choice ≡ true → lies_in at choice ≡ true
  pub agree : (choice : Choice) → Contains choices choice → meets at choice ≡ true → agrees at row.phrase choice ≡ true
