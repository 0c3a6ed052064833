-- Small runs, their hits and pieces, for known values.
use Rattle.std.specs.Prelude.{ℕ, false, zero, suc, List, [], ◌∷◌, ◌++◌}
use Rattle.chew_spec_syllable.specs.Row.{Row}
use Rattle.chew_spec_dictionary.specs.Call.{Hit}
use Rattle.chew_spec_dictionary.specs.HiddenPairs.{hidden_time}
use Rattle.chew_spec_phrasing.specs.Usable.{Choice, Piece}

-- 測, 策, 是 and 試, in UTF-8
abbrev pub survey : List ℕ
survey = 0xE6 ∷ 0xB8 ∷ 0xAC ∷ []

abbrev pub plan : List ℕ
plan = 0xE7 ∷ 0xAD ∷ 0x96 ∷ []

abbrev pub be : List ℕ
be = 0xE6 ∷ 0x98 ∷ 0xAF ∷ []

abbrev pub attempt : List ℕ
attempt = 0xE8 ∷ 0xA9 ∷ 0xA6 ∷ []

abbrev pub hit : ℕ → ℕ → List ℕ → ℕ → Hit
hit start len phrase freq = record { start = start; len = len; phrase = phrase; freq = freq; hidden = false }

abbrev pub piece : ℕ → List ℕ → ℕ → Piece
piece start phrase freq = record { start = start; phrase = phrase; freq = freq }

-- 是 so many times
abbrev pub be_times : ℕ → List ℕ
be_times zero = []
be_times (suc n) = be ++ be_times n

-- a hit of 是 as often as it is long
abbrev pub hit_of_be : ℕ → ℕ → ℕ → Hit
hit_of_be start len freq = hit start len (be_times len) freq

-- four syllables, for which 3 + 1 is better than 2 + 2 by one
abbrev pub four_syllables : List Hit
four_syllables =
    hit_of_be 0 1 0 ∷ hit_of_be 0 2 50 ∷ hit_of_be 0 3 300
    ∷ hit_of_be 1 1 0 ∷ hit_of_be 2 1 0 ∷ hit_of_be 2 2 50 ∷ hit_of_be 3 1 512 ∷ []

-- three syllables, for which 2 + 1 and 1 + 2 have one score
abbrev pub three_syllables : List Hit
three_syllables =
    hit_of_be 0 1 0 ∷ hit_of_be 0 2 40 ∷ hit_of_be 1 1 0 ∷ hit_of_be 1 2 40 ∷ hit_of_be 2 1 0 ∷ []

abbrev pub choice : ℕ → List ℕ → ℕ → Choice
choice start phrase freq = record { start = start; phrase = phrase; freq = freq }

-- the hits of 測, 策, 測試, 是 and 試
abbrev pub five_hits : List Hit
five_hits =
    hit 0 1 plan 200 ∷ hit 0 1 survey 100 ∷ hit 0 2 (survey ++ attempt) 9318
    ∷ hit 1 1 be 9000 ∷ hit 1 1 attempt 300 ∷ []

-- a row with the time of a hidden one
abbrev pub hidden_row : List ℕ → List ℕ → ℕ → Row
hidden_row key phrase freq = record { key = key; phrase = phrase; freq = freq; time = hidden_time }
