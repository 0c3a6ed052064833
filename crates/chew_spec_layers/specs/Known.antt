-- Short names for known marks and calls.
use Rattle.std.specs.Prelude.{ℕ, List, [], ◌∷◌}
use Rattle.chew_spec_dictionary.specs.Call.{Learn, Forget}
use Rattle.chew_spec_dictionary.specs.History.{Entry}
use Rattle.chew_spec_dictionary.specs.Known.{attempt, by, ce_key, ce_shi_key, learn_test, plan, shi_key, survey, test}
use Rattle.chew_spec_layers.specs.Mark.{Mark, Marked, Live, Grave}

-- a pair and its mark
abbrev pub marked : List ℕ → List ℕ → Mark → Marked
marked key phrase mark = record { key = key; phrase = phrase; mark = mark }

-- 試 and 測 with what was learnt of them, and the graves of 策 and 測試
abbrev pub four_marks : List Marked
four_marks = marked shi_key attempt (Live 5 6) ∷ marked ce_key survey (Live 12 7) ∷ marked ce_key plan Grave ∷ marked ce_shi_key test Grave ∷ []

-- 測 learnt, then 測試, and 測 forgotten twice
abbrev pub forgotten_twice : List Entry
forgotten_twice = by 1 (Learn ce_key survey 0 5) ∷ by 1 learn_test ∷ by 2 (Forget ce_key survey) ∷ by 2 (Forget ce_key survey) ∷ []
