-- What a map holds once a row is put into it, or a pair is taken out.
use Rattle.std.proofs.Common.{◌≡◌, ℕ, Bool, true, false, List, [], ◌∷◌, ◌&&◌, not, refl, ap, sym, ◌∙◌, cond, ap₂, Equal, Greater, is_gt, is_some, Option, Some, None, true≢false}
use Rattle.std.specs.Str.{bytes_eq}
use Rattle.std.proofs.lemmas.Bool.{cond-true, cond-false, false_from_ne_true}
use Rattle.chew_spec_syllable.specs.Row.{Row, image_cmp, is_pair_of}
use Rattle.chew_spec_dictionary.specs.System.{row_of}
use Rattle.chew_spec_dictionary.specs.Dictionary.{put_row, without}
use Rattle.chew_spec_dictionary.proofs.ImageOrder.{by_cases, tie_is_pair, of_pair, is_of_pair, apart}

-- a list that begins with a row of the pair
pub found_first : (key phrase : List ℕ) (row : Row) (rows : List Row) → is_pair_of key phrase row ≡ true → row_of (row ∷ rows) key phrase ≡ Some row
found_first key phrase row rows e = cond-true (is_pair_of key phrase row) (Some row) (row_of rows key phrase) e

-- a list that begins with a row of another pair
pub found_later : (key phrase : List ℕ) (row : Row) (rows : List Row) → is_pair_of key phrase row ≡ false → row_of (row ∷ rows) key phrase ≡ row_of rows key phrase
found_later key phrase row rows e = cond-false (is_pair_of key phrase row) (Some row) (row_of rows key phrase) e

-- a row that was put in is that of its pair
pub put_found : (row : Row) (rows : List Row) → row_of (put_row row rows) row.key row.phrase ≡ Some row
put_found row [] = found_first row.key row.phrase row [] (is_of_pair _ _ row refl refl)
put_found row (first ∷ rest) =
    let here = is_of_pair row.key row.phrase row refl refl in
    let later = put_found row rest in
    by_cases (image_cmp row first) (row ∷ (first ∷ rest)) (row ∷ rest) (first ∷ put_row row rest) (λ rows. row_of rows row.key row.phrase ≡ Some row)
    (λ _. found_first row.key row.phrase row (first ∷ rest) here)
    (λ _. found_first row.key row.phrase row rest here)
    (λ e. found_later row.key row.phrase first (put_row row rest) (apart row first Greater e (λ n. true≢false (ap is_gt n))) ∙ later)

-- no other pair changes when a row is put in
pub put_others : (row : Row) (rows : List Row) (key phrase : List ℕ) → is_pair_of key phrase row ≡ false → row_of (put_row row rows) key phrase ≡ row_of rows key phrase
put_others row [] key phrase other = found_later key phrase row [] other
put_others row (first ∷ rest) key phrase other =
    let later = put_others row rest key phrase other in
    by_cases (image_cmp row first) (row ∷ (first ∷ rest)) (row ∷ rest) (first ∷ put_row row rest) (λ rows. row_of rows key phrase ≡ row_of (first ∷ rest) key phrase)
    (λ _. found_later key phrase row (first ∷ rest) other)
    (λ e. found_later key phrase row rest other ∙ sym (found_later key phrase first rest (tied e)))
    (λ _. ap (λ (o : Option Row). cond (is_pair_of key phrase first) (Some first) o) later)
  where
    tied : image_cmp row first ≡ Equal → is_pair_of key phrase first ≡ false
    tied e = let same = tie_is_pair row first e in ap₂ (λ (k p : List ℕ). bytes_eq k key && bytes_eq p phrase) (sym same.0) (sym same.1) ∙ other

-- the pair that was taken out is not held
pub without_gone : (key phrase : List ℕ) (rows : List Row) → row_of (without key phrase rows) key phrase ≡ None
without_gone key phrase [] = refl
without_gone key phrase (row ∷ rows) =
    let later = without_gone key phrase rows in
    by (is_pair_of key phrase row) refl later
  where
    by : (b : Bool) → is_pair_of key phrase row ≡ b → row_of (without key phrase rows) key phrase ≡ None → row_of (cond (not b) (row ∷ without key phrase rows) (without key phrase rows)) key phrase ≡ None
    by true e later = later
    by false e later = found_later key phrase row (without key phrase rows) e ∙ later

-- no other pair changes when one is taken out
pub without_others : (key phrase : List ℕ) (rows : List Row) (k p : List ℕ) → (key ≡ k → phrase ≡ p → ⊥) → row_of (without key phrase rows) k p ≡ row_of rows k p
without_others key phrase [] k p other = refl
without_others key phrase (row ∷ rows) k p other =
    let later = without_others key phrase rows k p other in
    by (is_pair_of key phrase row) refl later
  where
    by : (b : Bool) → is_pair_of key phrase row ≡ b → row_of (without key phrase rows) k p ≡ row_of rows k p → row_of (cond (not b) (row ∷ without key phrase rows) (without key phrase rows)) k p ≡ row_of (row ∷ rows) k p
    by true e later = later ∙ sym (found_later k p row rows (false_from_ne_true _ (λ t. let a = of_pair key phrase row e in let b = of_pair k p row t in other (sym a.0 ∙ b.0) (sym a.1 ∙ b.1))))
    by false e later = ap (λ (o : Option Row). cond (is_pair_of k p row) (Some row) o) later

-- a row whose key or phrase differs is of another pair
pub other_pair : (row : Row) (key phrase : List ℕ) → (row.key ≡ key → row.phrase ≡ phrase → ⊥) → is_pair_of key phrase row ≡ false
other_pair row key phrase other = false_from_ne_true _ (λ t. let a = of_pair key phrase row t in other a.0 a.1)

-- the row that is found has the pair's key
pub key_found : (rows : List Row) (key phrase : List ℕ) (row : Row) → row_of rows key phrase ≡ Some row → row.key ≡ key
key_found [] key phrase row e = absurd (true≢false (ap is_some (sym e)))
key_found (first ∷ rest) key phrase row e = by (is_pair_of key phrase first) refl e (key_found rest key phrase row)
  where
    by : (b : Bool) → is_pair_of key phrase first ≡ b → cond b (Some first) (row_of rest key phrase) ≡ Some row → (row_of rest key phrase ≡ Some row → row.key ≡ key) → row.key ≡ key
    by true t e later = let same : first ≡ row = cc in ap (λ (r : Row). r.key) (sym same) ∙ (of_pair key phrase first t).0
    by false f e later = later e
