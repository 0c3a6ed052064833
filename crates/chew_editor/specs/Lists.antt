-- The candidate lists of a place, from the longest on.
use Rattle.std.specs.Prelude.{ℕ, List, [], ◌∷◌, filter, map, reverse}
use Rattle.std.specs.List.{range_with_len}
use Rattle.chew_spec_dictionary.specs.Call.{Hit}
use Rattle.chew_spec_preedit.specs.Window.{CandidateList, candidates_of, has_candidate, is_whole_at}

-- the lists of these lengths, where no break parts them and there is a candidate
abbrev pub lists_of : List Hit → List ℕ → ℕ → List ℕ → List CandidateList
lists_of rows breaks place lens = filter has_candidate (map (candidates_of rows place) (filter (is_whole_at breaks place) lens))

-- those of one length
unfoldable pub list_at : List Hit → List ℕ → (place len : ℕ) → List CandidateList
list_at rows breaks place len = lists_of rows breaks place (len ∷ [])

-- those of the lengths from this one down to 1
unfoldable pub lists_from : List Hit → List ℕ → (place longest : ℕ) → List CandidateList
lists_from rows breaks place longest = lists_of rows breaks place (reverse (range_with_len 1 longest))
