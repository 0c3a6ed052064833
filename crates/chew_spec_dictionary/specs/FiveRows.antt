-- A system of five rows, for the known values.
use Rattle.std.specs.Prelude.{ℕ, List, [], ◌∷◌, codes}
use Rattle.std.specs.Str.{encode_utf8_all}
use Rattle.chew_spec_syllable.specs.Row.{Row}

-- the syllables ㄘㄜˋ and ㄕˋ
abbrev pub ce4 : ℕ
ce4 = 10_268

abbrev pub shi4 : ℕ
shi4 = 8708

-- a row with the time 0
abbrev pub row_at_start : List ℕ → List ℕ → ℕ → Row
row_at_start key phrase freq = record { key = key; phrase = phrase; freq = freq; time = 0 }

-- 測 and 策 for the one syllable, 是 and 試 for the other, 測試 for both
unfoldable pub five_rows : List Row
five_rows =
    row_at_start (ce4 ∷ []) (encode_utf8_all (codes "測")) 100
    ∷ (row_at_start (ce4 ∷ []) (encode_utf8_all (codes "策")) 200
    ∷ (row_at_start (shi4 ∷ []) (encode_utf8_all (codes "是")) 9000
    ∷ (row_at_start (shi4 ∷ []) (encode_utf8_all (codes "試")) 300
    ∷ (row_at_start (ce4 ∷ (shi4 ∷ [])) (encode_utf8_all (codes "測試")) 9318
    ∷ []))))
