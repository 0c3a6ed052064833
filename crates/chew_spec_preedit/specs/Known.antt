-- A small buffer and small windows, for known values.
use Rattle.std.specs.Prelude.{ℕ, zero, suc, Bool, true, false, List, [], ◌∷◌, ◌++◌}
use Rattle.chew_spec_dictionary.specs.Call.{Hit}
use Rattle.chew_spec_phrasing.specs.Known.{attempt, choice, hit, plan, survey}
use Rattle.chew_spec_phrasing.specs.Usable.{Choice}
use Rattle.chew_spec_preedit.specs.Buffer.{Buffer}
use Rattle.chew_spec_preedit.specs.Cell.{Cell, Sound, Symbol}
use Rattle.chew_spec_preedit.specs.Window.{CandidateList, Window}

-- ㄘㄜˋ, ㄕˋ and an exclamation mark
abbrev pub ce : Cell
ce = Sound 10268

abbrev pub shi : Cell
shi = Sound 8708

abbrev pub mark : Cell
mark = Symbol 33

-- a buffer of at most ten cells
abbrev pub buffer : List Cell → ℕ → List ℕ → List Choice → Buffer
buffer cells cursor breaks choices = record { limit = 10; cells = cells; cursor = cursor; breaks = breaks; choices = choices }

-- ㄘㄜˋㄕˋㄘㄜˋㄕˋ!ㄕˋ
abbrev pub six_cells : List Cell
six_cells = ce ∷ shi ∷ ce ∷ shi ∷ mark ∷ shi ∷ []

-- 測試, chosen at a place
abbrev pub test_at : ℕ → Choice
test_at place = choice place (survey ++ attempt) 9318

-- these cells with a break in their middle and 測試 chosen on its two sides, and the cursor at a place
abbrev pub six_at : ℕ → Buffer
six_at cursor = buffer six_cells cursor (2 ∷ []) (test_at 0 ∷ test_at 2 ∷ [])

-- 策 with each frequency below a number, the greatest first
abbrev pub plans_below : ℕ → List Hit
plans_below zero = []
plans_below (suc n) = hit 0 1 plan n ∷ plans_below n

-- twelve candidates of one length, so many on a page
abbrev pub twelve : ℕ → ℕ → Window
twelve per_page page = record {
  place = 0;
  lists = record { len = 1; rows = plans_below 12 } ∷ [];
  per_page = per_page;
  list = 0;
  page = page;
}

-- 測試, and then 策 and 測, for a place
abbrev pub test_lists : List CandidateList
test_lists =
    record { len = 2; rows = hit 0 2 (survey ++ attempt) 9318 ∷ [] }
    ∷ record { len = 1; rows = hit 0 1 plan 200 ∷ hit 0 1 survey 100 ∷ [] } ∷ []
