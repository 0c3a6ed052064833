-- What a system dictionary, a list of rows with no pair twice, answers: filters of its rows.
use Rattle.std.specs.Prelude.{ℕ, Bool, List, [], ◌∷◌, map, filter, find, fold, max, bytes_eq, Option}
use Rattle.std.specs.Option.{option_map_or}
use Rattle.std.specs.List.{list_any}
use Rattle.std.specs.declared.cmp.Ordering.{Ordering}
use Rattle.std.specs.Ordering.{nat_cmp}
use Rattle.std.specs.Cmp.Lexicographic.{slice_cmp}
use Rattle.chew_spec_syllable.specs.Row.{Row, is_pair_of}
use Rattle.chew_spec_dictionary.specs.Order.{in_order}

-- the row is under the key
abbrev pub is_under : List ℕ → Row → Bool
is_under key row = bytes_eq row.key key

-- the rows of a key
abbrev pub rows_under : List Row → List ℕ → List Row
rows_under rows key = filter (is_under key) rows

-- the order of phrases by their bytes
abbrev pub phrase_cmp : Row → Row → Ordering
phrase_cmp row other = slice_cmp nat_cmp row.phrase other.phrase

-- the rows of a key, in the order of their phrases' bytes
abbrev pub rows_of : List Row → List ℕ → List Row
rows_of rows key = in_order phrase_cmp (rows_under rows key)

-- the row of a pair
abbrev pub row_of : List Row → List ℕ → List ℕ → Option Row
row_of rows key phrase = find (is_pair_of key phrase) rows

-- the frequency of a pair, or 0
abbrev pub freq_of : List Row → List ℕ → List ℕ → ℕ
freq_of rows key phrase = option_map_or (λ row. row.freq) (row_of rows key phrase) 0

-- the greatest frequency of rows, or 0; and that of a key
abbrev pub greatest : List Row → ℕ
greatest rows = fold max 0 (map (λ row. row.freq) rows)

abbrev pub peak_of : List Row → List ℕ → ℕ
peak_of rows key = greatest (rows_under rows key)

-- there is a row for this syllable by itself
abbrev pub has_single : List Row → ℕ → Bool
has_single rows code = list_any (is_under (code ∷ [])) rows
