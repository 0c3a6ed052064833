-- The greatest frequency of the hits that are shown.
use Rattle.std.specs.Prelude.{ℕ, List, not, map, filter, fold, max}
use Rattle.chew_spec_dictionary.specs.Call.{Hit}

-- the hits that are not hidden
abbrev pub shown_hits : List Hit → List Hit
shown_hits hits = filter (λ hit. not hit.hidden) hits

-- the greatest frequency of those, or 0
abbrev pub greatest_of_shown : List Hit → ℕ
greatest_of_shown hits = fold max 0 (map (λ hit. hit.freq) (shown_hits hits))
