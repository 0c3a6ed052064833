-- The rows of a key, by their places among all rows of the system.
use Rattle.std.proofs.Common.{◌≡◌, ℕ, ◌+◌, ◌-◌, ◌<◌, ◌≤◌, true, ◌&&◌, List, length, get_or, take, drop, slice_get, chars, Some, eqb-true, sym, ap, ◌∙◌, subst, Contains, arith}
use Rattle.std.specs.Prelude.{◌==◌, nat_le}
use Rattle.std.specs.List.{list_all}
use Rattle.std.proofs.lemmas.Bool.{and_parts, leb-true}
use Rattle.std.proofs.lemmas.List.{length-drop, length-take}
use Rattle.std.proofs.lemmas.Option.{get_or_from_slice_get}
use Rattle.chew_spec_syllable.specs.Key.{is_key}
use Rattle.chew_spec_syllable.specs.Phrase.{is_phrase}
use Rattle.chew_spec_syllable.specs.Row.{Row, greatest_freq, is_pair, is_row}
use Rattle.std.proofs.lemmas.List.Sorted.{Contains-permutation, IsPermutation-sym}
use Rattle.chew_spec_dictionary.specs.System.{phrase_cmp, rows_of, rows_under}
use Rattle.chew_spec_dictionary.proofs.Found.{each_of_all}
use Rattle.chew_spec_dictionary.proofs.Order.{order_permutes}
use Rattle.chew_spec_dictionary.proofs.Rows.{under_key}
use Rattle.chew_phrasing.specs.FirstPlace.{AreOfKey, rows_between}
use Rattle.chew_plain.proofs.Together.{its_row, its_row_key, its_row_valid}

-- a row of the key
pub record IsRowOf (rows : List Row) (key : List ℕ) (i : ℕ) (row : Row) : Type 0 where
  pub inside : i < length (rows_of rows key)
  pub there : slice_get (rows_of rows key) i ≡ Some row
  pub is : row ≡ get_or (rows_of rows key) i row
  pub phrase : is_phrase row.phrase ≡ true
  pub long : length (chars row.phrase) ≡ length key
  pub freq : row.freq ≤ 99_999_999

pub row_of_key : (rows : List Row) (key : List ℕ) (start end i : ℕ) (row : Row) → take (end - start) (drop start rows) ≡ rows_of rows key → end ≤ length rows → list_all is_row rows ≡ true → i < end - start → slice_get rows (start + i) ≡ Some row → IsRowOf rows key i row
row_of_key rows key start end i row together within each below there =
    let inside : i < length (rows_of rows key) =
    omega (arith, ap (λ l. length l) together, length-take (end - start) (drop start rows), length-drop start rows) in
    let valid = its_row_valid rows key start end i row together inside there each in
    let same = its_row_key rows key start end i row together inside there in
    let found = its_row rows key start end i row together inside there in
    let parts = and_parts (is_pair row.key row.phrase) (nat_le row.freq greatest_freq) valid in
    let pair = and_parts (is_key row.key) (is_phrase row.phrase && (length (chars row.phrase) == length row.key)) parts.0 in
    let both = and_parts (is_phrase row.phrase) (length (chars row.phrase) == length row.key) pair.1 in
    record {
      inside = inside;
      there = found;
      is = sym (get_or_from_slice_get (rows_of rows key) i row row found);
      phrase = both.0;
      long = eqb-true (length (chars row.phrase)) (length row.key) both.1 ∙ ap (λ k. length k) same;
      freq = leb-true row.freq greatest_freq parts.1;
    }

-- a row between the places of a key's rows
pub row_between : (rows : List Row) (key : List ℕ) (start end i : ℕ) (row : Row) → AreOfKey rows start end key → i < end - start → slice_get rows (start + i) ≡ Some row
    → (i < length (rows_between rows start end)) × (row ≡ get_or (rows_between rows start end) i row)
row_between rows key start end i row h below there =
    let fact = row_of_key rows key start end i row h.together h.within h.each below there in
    subst (λ (xs : List Row). (i < length xs) × (row ≡ get_or xs i row)) (sym h.together) (fact.inside, fact.is)

-- a row among those of a key has its length and a small frequency
pub row_among : (rows : List Row) (key : List ℕ) (row : Row) → list_all is_row rows ≡ true → Contains (rows_of rows key) row → (length (chars row.phrase) ≡ length key) × (row.freq ≤ 99_999_999)
row_among rows key row each i =
    let under = under_key rows key row (Contains-permutation (rows_of rows key) (rows_under rows key) row (IsPermutation-sym (rows_under rows key) (rows_of rows key) (order_permutes phrase_cmp (rows_under rows key))) i) in
    let among = under.0 in
    let valid : is_row row ≡ true = ap is_row (sym among.2) ∙ each_of_all is_row rows among.0 row each among.1 in
    let parts = and_parts (is_pair row.key row.phrase) (nat_le row.freq greatest_freq) valid in
    let pair = and_parts (is_key row.key) (is_phrase row.phrase && (length (chars row.phrase) == length row.key)) parts.0 in
    let both = and_parts (is_phrase row.phrase) (length (chars row.phrase) == length row.key) pair.1 in
    (eqb-true (length (chars row.phrase)) (length row.key) both.1 ∙ ap (λ k. length k) under.1, leb-true row.freq greatest_freq parts.1)
