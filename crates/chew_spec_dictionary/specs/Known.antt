-- Short names for known values: keys, phrases, entries, and a dictionary that holds nothing yet.
use Rattle.std.specs.Prelude.{ℕ, Bool, List, [], ◌∷◌, ◌++◌}
use Rattle.chew_spec_syllable.specs.Row.{Row}
use Rattle.chew_spec_dictionary.specs.Call.{Call, Hit, Learn}
use Rattle.chew_spec_dictionary.specs.FiveRows.{ce4, shi4}
use Rattle.chew_spec_dictionary.specs.History.{Entry, Point, start_of}

-- the keys ㄘㄜˋ, ㄕˋ and ㄘㄜˋ ㄕˋ
abbrev pub ce_key : List ℕ
ce_key = ce4 ∷ []

abbrev pub shi_key : List ℕ
shi_key = shi4 ∷ []

abbrev pub ce_shi_key : List ℕ
ce_shi_key = ce4 ∷ shi4 ∷ []

-- 測, 策, 是 and 試, in UTF-8
abbrev pub survey : List ℕ
survey = 0xE6 ∷ 0xB8 ∷ 0xAC ∷ []

abbrev pub plan : List ℕ
plan = 0xE7 ∷ 0xAD ∷ 0x96 ∷ []

abbrev pub be : List ℕ
be = 0xE6 ∷ 0x98 ∷ 0xAF ∷ []

abbrev pub attempt : List ℕ
attempt = 0xE8 ∷ 0xA9 ∷ 0xA6 ∷ []

-- 測試
abbrev pub test : List ℕ
test = survey ++ attempt

-- a dictionary without a pair, before any learn, that takes so many pairs
abbrev pub nothing_with_cap : ℕ → Point
nothing_with_cap cap = start_of (record { pairs = []; life = 0; cap = cap })

-- a call by this number
abbrev pub by : ℕ → Call → Entry
by who call = record { who = who; call = call }

-- 測試, which the system has with 9318, learnt
abbrev pub learn_test : Call
learn_test = Learn ce_shi_key test 9318 9318

-- a row and a hit of these parts
abbrev pub row_with : (key phrase : List ℕ) (freq time : ℕ) → Row
row_with key phrase freq time = record { key = key; phrase = phrase; freq = freq; time = time }

abbrev pub hit : (start len : ℕ) → List ℕ → ℕ → Bool → Hit
hit start len phrase freq hidden = record { start = start; len = len; phrase = phrase; freq = freq; hidden = hidden }
