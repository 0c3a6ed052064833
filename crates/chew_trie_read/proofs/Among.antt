-- What is found among rows that stand together.
use Rattle.std.proofs.Common.{◌≡◌, ℕ, suc, ◌+◌, ◌-◌, ◌<◌, ◌≤◌, max, true, false, List, [], ◌∷◌, length, take, drop, map, Option, Some, sym, ap, ◌∙◌, arith}
use Rattle.std.specs.List.{fold, find, slice_get}
use Rattle.std.specs.Option.{option_map_or}
use Rattle.std.specs.Str.{bytes_eq}
use Rattle.std.proofs.lemmas.Bool.{cond-false, cond-true}
use Rattle.std.proofs.lemmas.List.{drop_more}
use Rattle.std.proofs.lemmas.Option.{get_or_from_slice_get, same_Some}
use Rattle.chew_spec_syllable.specs.Row.{Row}
use Rattle.chew_trie_read.specs.Rest.{rows_between}

-- the rows from a place on, by the first
pub rows_more : (rows : List Row) (place end : ℕ) (row : Row) → place < end → end ≤ length rows → slice_get rows place ≡ Some row
    → rows_between rows place end ≡ row ∷ rows_between rows (place + 1) end
rows_more rows place end row h within at =
    let n : end - place ≡ suc (end - (place + 1)) = omega arith in
    ap (λ (k : ℕ). take k (drop place rows)) n
    ∙ ap (take (suc (end - (place + 1)))) (drop_more rows place row (omega arith) ∙ ap (λ (r : Row). r ∷ drop (place + 1) rows) (get_or_from_slice_get rows place row row at))

-- there are none from the end on
pub rows_none : (rows : List Row) (place end : ℕ) → end ≤ place → rows_between rows place end ≡ []
rows_none rows place end h = let n : end - place ≡ 0 = omega arith in ap (λ (k : ℕ). take k (drop place rows)) n

-- the frequency of the first row that has a phrase
abbrev pub freq_in : List ℕ → List Row → ℕ
freq_in phrase rows = option_map_or (λ (row : Row). row.freq) (find (λ (row : Row). bytes_eq row.phrase phrase) rows) 0

pub freq_here : (rows : List Row) (place end : ℕ) (row : Row) (phrase : List ℕ) (all : ℕ) → place < end → end ≤ length rows → slice_get rows place ≡ Some row
    → bytes_eq row.phrase phrase ≡ true → freq_in phrase (rows_between rows place end) ≡ all → row.freq ≡ all
freq_here rows place end row phrase all h within at e same =
    let rest = rows_between rows (place + 1) end in
    sym (ap (λ (o : Option Row). option_map_or (λ (r : Row). r.freq) o 0) (cond-true (bytes_eq row.phrase phrase) (Some row) (find (λ (r : Row). bytes_eq r.phrase phrase) rest) e))
    ∙ ap (freq_in phrase) (sym (rows_more rows place end row h within at)) ∙ same

pub freq_later : (rows : List Row) (place end : ℕ) (row : Row) (phrase : List ℕ) (all : ℕ) → place < end → end ≤ length rows → slice_get rows place ≡ Some row
    → bytes_eq row.phrase phrase ≡ false → freq_in phrase (rows_between rows place end) ≡ all → freq_in phrase (rows_between rows (place + 1) end) ≡ all
freq_later rows place end row phrase all h within at e same =
    let rest = rows_between rows (place + 1) end in
    sym (ap (λ (o : Option Row). option_map_or (λ (r : Row). r.freq) o 0) (cond-false (bytes_eq row.phrase phrase) (Some row) (find (λ (r : Row). bytes_eq r.phrase phrase) rest) e))
    ∙ ap (freq_in phrase) (sym (rows_more rows place end row h within at)) ∙ same

-- the greatest frequency, from one on
abbrev pub peak_from : ℕ → List Row → ℕ
peak_from peak rows = fold max peak (map (λ (row : Row). row.freq) rows)

pub peak_more : (rows : List Row) (place end : ℕ) (row : Row) (peak next all : ℕ) → place < end → end ≤ length rows → slice_get rows place ≡ Some row → next ≡ max peak row.freq
    → peak_from peak (rows_between rows place end) ≡ all → peak_from next (rows_between rows (place + 1) end) ≡ all
peak_more rows place end row peak next all h within at e same =
    ap (λ (k : ℕ). peak_from k (rows_between rows (place + 1) end)) e ∙ ap (peak_from peak) (sym (rows_more rows place end row h within at)) ∙ same

-- all rows from a place on, by the first
pub each_more : (rows : List Row) (place : ℕ) (row : Row) → place < length rows → slice_get rows place ≡ Some row → drop place rows ≡ row ∷ drop (place + 1) rows
each_more rows place row h at = drop_more rows place row h ∙ ap (λ (r : Row). r ∷ drop (place + 1) rows) (get_or_from_slice_get rows place row row at)

-- the row at a place, of which one reading gives the key and another the rest
pub both_read : (rows : List Row) (place : ℕ) (row other : Row) → slice_get rows place ≡ Some row → slice_get rows place ≡ Some other
    → slice_get rows place ≡ Some (record { key = row.key; phrase = other.phrase; freq = other.freq; time = other.time })
both_read rows place row other a b =
    let same = same_Some row other (sym a ∙ b) in
    b ∙ ap (λ (k : List ℕ). let mine : Row = record { key = k; phrase = other.phrase; freq = other.freq; time = other.time } in Some mine) (ap (λ (r : Row). r.key) (sym same))
