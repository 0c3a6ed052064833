-- The greatest frequency of a key is one, and none is above it.
use Rattle.std.proofs.Common.{◌≡◌, ◌⊎◌, inl, inr, ⊎_elim, ℕ, suc, ◌≤◌, ◌<◌, max, Bool, true, false, List, [], ◌∷◌, map, refl, ap, sym, ◌∙◌, cond, Option, All, Contains, arith}
use Rattle.std.specs.List.{fold}
use Rattle.std.specs.Option.{option_map_or}
use Rattle.std.specs.Str.{bytes_eq}
use Rattle.std.proofs.lemmas.Bool.{and_parts, cases_lt, true≢false}
use Rattle.std.proofs.lemmas.List.Elements.{All-contains, All-cons}
use Rattle.chew_spec_syllable.specs.Row.{Row, is_pair_of}
use Rattle.chew_spec_dictionary.specs.System.{rows_under, is_under, freq_of, peak_of}
use Rattle.chew_spec_dictionary.proofs.Pairs.{found_first, found_later}

-- the greatest of a number and of frequencies is not below the number
greatest_from : (a : ℕ) (rows : List Row) → a ≤ fold max a (map (λ (row : Row). row.freq) rows)
greatest_from a [] = omega arith
greatest_from a (row ∷ rows) = omega (arith, greatest_from (max a row.freq) rows)

-- nor below each of the frequencies
greatest_of : (a : ℕ) (rows : List Row) → All (λ (row : Row). row.freq ≤ fold max a (map (λ (r : Row). r.freq) rows)) rows
greatest_of a [] = λ k d l. absurd (omega arith)
greatest_of a (row ∷ rows) = All-cons (λ (r : Row). r.freq ≤ fold max a (map (λ (r : Row). r.freq) (row ∷ rows))) row rows (omega (arith, greatest_from (max a row.freq) rows)) (greatest_of (max a row.freq) rows)

-- no row of a key has a frequency above the greatest
pub peak_bounds : (rows : List Row) (key : List ℕ) (row : Row) → Contains (rows_under rows key) row → row.freq ≤ peak_of rows key
peak_bounds rows key row h = All-contains (λ (r : Row). r.freq ≤ peak_of rows key) (rows_under rows key) row (greatest_of 0 (rows_under rows key)) h

-- the frequency of a pair is not above the greatest of a number and of its key's frequencies
freq_from : (a : ℕ) (rows : List Row) (key phrase : List ℕ) → freq_of rows key phrase ≤ fold max a (map (λ (row : Row). row.freq) (rows_under rows key))
freq_from a [] key phrase = omega arith
freq_from a (row ∷ rows) key phrase = by (is_under key row) (is_pair_of key phrase row) refl refl (freq_from a rows key phrase) (freq_from (max a row.freq) rows key phrase)
  where
    freq : Option Row → ℕ
    freq o = option_map_or (λ (r : Row). r.freq) o 0

    by : (u b : Bool) → is_under key row ≡ u → is_pair_of key phrase row ≡ b
        → freq_of rows key phrase ≤ fold max a (map (λ (r : Row). r.freq) (rows_under rows key))
        → freq_of rows key phrase ≤ fold max (max a row.freq) (map (λ (r : Row). r.freq) (rows_under rows key))
        → freq_of (row ∷ rows) key phrase ≤ fold max a (map (λ (r : Row). r.freq) (cond u (row ∷ rows_under rows key) (rows_under rows key)))
    by true true eu eb same more = let found = ap (λ (o : Option Row). option_map_or (λ (r : Row). r.freq) o 0) (found_first key phrase row rows eb) in omega (arith, found, greatest_from (max a row.freq) (rows_under rows key))
    by true false eu eb same more = let found = ap (λ (o : Option Row). option_map_or (λ (r : Row). r.freq) o 0) (found_later key phrase row rows eb) in omega (arith, found, more)
    by false true eu eb same more = let both = and_parts (bytes_eq row.key key) (bytes_eq row.phrase phrase) eb in absurd (true≢false (sym both.0 ∙ eu))
    by false false eu eb same more = let found = ap (λ (o : Option Row). option_map_or (λ (r : Row). r.freq) o 0) (found_later key phrase row rows eb) in omega (arith, found, same)

-- the frequency of a pair is not above the greatest of its key
pub freq_within_peak : (rows : List Row) (key phrase : List ℕ) → freq_of rows key phrase ≤ peak_of rows key
freq_within_peak rows key phrase = freq_from 0 rows key phrase

-- the greatest of a number and of frequencies is the number or one of them
reached : (a : ℕ) (rows : List Row) → (fold max a (map (λ (row : Row). row.freq) rows) ≡ a) ⊎ ((row : Row) × Contains rows row × (row.freq ≡ fold max a (map (λ (r : Row). r.freq) rows)))
reached a [] = inl refl
reached a (row ∷ rows) = ⊎_elim
    (λ (s : fold max (max a row.freq) (map (λ (r : Row). r.freq) rows) ≡ max a row.freq). ⊎_elim
    (λ (l : row.freq < a). inl (omega (arith, s)))
    (λ (m : a ≤ row.freq). inr (row, (0, omega arith, refl), omega (arith, s)))
    (cases_lt row.freq a))
    (λ (h : (r : Row) × Contains rows r × (r.freq ≡ fold max (max a row.freq) (map (λ (q : Row). q.freq) rows))). inr (h.0, (suc h.1.0, omega (arith, h.1.1), h.1.2), h.2))
    (reached (max a row.freq) rows)

-- the greatest frequency of a key is 0 or that of one of its rows
pub peak_reached : (rows : List Row) (key : List ℕ) → (peak_of rows key ≡ 0) ⊎ ((row : Row) × Contains (rows_under rows key) row × (row.freq ≡ peak_of rows key))
peak_reached rows key = reached 0 (rows_under rows key)
