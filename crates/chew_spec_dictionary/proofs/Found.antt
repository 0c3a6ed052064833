-- What the look-ups of rows find, and what they don't.
use Rattle.std.proofs.Common.{◌≡◌, ◌↔◌, ℕ, zero, suc, ◌<◌, Bool, true, false, List, [], ◌∷◌, ◌||◌, not, length, get_or, refl, ap, sym, ◌∙◌, cond, Option, Some, None, Contains, arith}
use Rattle.std.specs.List.{list_all, list_any}
use Rattle.std.specs.Option.{option_map_or}
use Rattle.std.proofs.lemmas.Bool.{and_parts, not-true, true≢false, false_from_ne_true}
use Rattle.std.proofs.lemmas.List.Elements.{All-contains, All-filter, All-contains_itself, filter_passes}
use Rattle.std.proofs.lemmas.List.Folds.{list_any_at}
use Rattle.std.proofs.lemmas.Slice.Eq.{bytes_eq-Decides}
use Rattle.chew_spec_syllable.specs.Row.{Row, is_pair_of}
use Rattle.chew_spec_dictionary.specs.HiddenPairs.{is_hidden, shown_rows}
use Rattle.chew_spec_dictionary.specs.System.{freq_of, row_of, rows_under, is_under, has_single}
use Rattle.chew_spec_dictionary.proofs.ImageOrder.{of_pair, is_of_pair}
use Rattle.chew_spec_dictionary.proofs.Pairs.{found_first, found_later}
use Rattle.chew_spec_dictionary.proofs.Hiding.{some_not_none}
use Rattle.chew_spec_dictionary.proofs.Rows.{under_key}
use Rattle.chew_spec_dictionary.proofs.Hits.{contained_filter}

-- the row is not hidden
abbrev shows : Row → Bool
shows row = not (is_hidden row)

-- what a test of all says of the element at a place
pub each_of_all : {X : Type 0} (p : X → Bool) (xs : List X) (k : ℕ) (d : X) → list_all p xs ≡ true → k < length xs → p (get_or xs k d) ≡ true
each_of_all p [] k d a l = absurd (omega arith)
each_of_all p (x ∷ xs) zero d a l = (and_parts (p x) (list_all p xs) a).0
each_of_all p (x ∷ xs) (suc k) d a l = each_of_all p xs k d (and_parts (p x) (list_all p xs) a).1 (omega arith)

-- what stands in a list stands in it behind one element more
pub one_later : {X : Type 0} (z x : X) (xs : List X) → Contains xs x → Contains (z ∷ xs) x
one_later z x xs h = (suc h.0, omega (arith, h.1), h.2)

-- the row that is found is one of the rows, and of the pair
pub found_is_row : (rows : List Row) (key phrase : List ℕ) (row : Row) → row_of rows key phrase ≡ Some row → Contains rows row × (row.key ≡ key) × (row.phrase ≡ phrase)
found_is_row [] key phrase row e = absurd (some_not_none row (sym e))
found_is_row (first ∷ rest) key phrase row e = by (is_pair_of key phrase first) refl e (found_is_row rest key phrase row)
  where
    by : (b : Bool) → is_pair_of key phrase first ≡ b → cond b (Some first) (row_of rest key phrase) ≡ Some row
        → (row_of rest key phrase ≡ Some row → Contains rest row × (row.key ≡ key) × (row.phrase ≡ phrase))
        → Contains (first ∷ rest) row × (row.key ≡ key) × (row.phrase ≡ phrase)
    by true t e later =
        let same : first ≡ row = cc in
        let pair = of_pair key phrase first t in
        ((0, omega arith, same), ap (λ (r : Row). r.key) (sym same) ∙ pair.0, ap (λ (r : Row). r.phrase) (sym same) ∙ pair.1)
    by false f e later = let l = later e in (one_later first row rest l.0, l.1, l.2)

-- where nothing is found, no row at a place is of the pair
none_at : (rows : List Row) (key phrase : List ℕ) (row : Row) (k : ℕ) → row_of rows key phrase ≡ None → k < length rows → get_or rows k row ≡ row → is_pair_of key phrase row ≡ false
none_at [] key phrase row k e l at = absurd (omega arith)
none_at (first ∷ rest) key phrase row zero e l at = ap (is_pair_of key phrase) (sym at) ∙ false_from_ne_true _ (λ t. some_not_none first (sym (found_first key phrase first rest t) ∙ e))
none_at (first ∷ rest) key phrase row (suc k) e l at = none_at rest key phrase row k (sym (found_later key phrase first rest (false_from_ne_true _ (λ t. some_not_none first (sym (found_first key phrase first rest t) ∙ e)))) ∙ e) (omega arith) at

-- where nothing is found, no row is of the pair
pub none_is_row : (rows : List Row) (key phrase : List ℕ) (row : Row) → row_of rows key phrase ≡ None → Contains rows row → row.key ≡ key → row.phrase ≡ phrase → ⊥
none_is_row rows key phrase row e h k p = true≢false (sym (is_of_pair key phrase row k p) ∙ none_at rows key phrase row h.0 e h.1 h.2)

-- the frequency of a pair is that of its row, or 0
pub freq_found : (rows : List Row) (key phrase : List ℕ) (row : Row) → row_of rows key phrase ≡ Some row → freq_of rows key phrase ≡ row.freq
freq_found rows key phrase row e = ap (λ (o : Option Row). option_map_or (λ (r : Row). r.freq) o 0) e

pub freq_none : (rows : List Row) (key phrase : List ℕ) → row_of rows key phrase ≡ None → freq_of rows key phrase ≡ 0
freq_none rows key phrase e = ap (λ (o : Option Row). option_map_or (λ (r : Row). r.freq) o 0) e

-- the rows under a key are the rows that have it
pub under_where : (rows : List Row) (key : List ℕ) (row : Row) → Contains (rows_under rows key) row ↔ (Contains rows row × (row.key ≡ key))
under_where rows key row = (
  under_key rows key row,
  λ h. contained_filter (is_under key) row ((bytes_eq-Decides row.key key).1 h.1) rows h.0.0 h.0.1 h.0.2,
)

-- a test that some row passes, and the row
any_row : (test : Row → Bool) (rows : List Row) → list_any test rows ≡ true → (row : Row) × Contains rows row × (test row ≡ true)
any_row test [] e = absurd (true≢false (sym e))
any_row test (first ∷ rest) e = by (test first) refl e (any_row test rest)
  where
    by : (b : Bool) → test first ≡ b → (b || list_any test rest) ≡ true → (list_any test rest ≡ true → (row : Row) × Contains rest row × (test row ≡ true)) → (row : Row) × Contains (first ∷ rest) row × (test row ≡ true)
    by true t e later = (first, (0, omega arith, refl), t)
    by false f e later = let l = later e in (l.0, one_later first l.0 rest l.1, l.2)

-- there is a row for a syllable by itself exactly where one has it as its key
pub single_where : (rows : List Row) (code : ℕ) → (has_single rows code ≡ true) ↔ ((row : Row) × Contains rows row × (row.key ≡ code ∷ []))
single_where rows code = (
  λ e. let r = any_row (is_under (code ∷ [])) rows e in (r.0, r.1, (bytes_eq-Decides r.0.key (code ∷ [])).0 r.2),
  λ h. list_any_at (is_under (code ∷ [])) rows h.1.0 h.0 h.1.1 (ap (is_under (code ∷ [])) h.1.2 ∙ (bytes_eq-Decides h.0.key (code ∷ [])).1 h.2),
)

-- the rows that are shown are those that are not hidden
pub shown_where : (rows : List Row) (row : Row) → Contains (shown_rows rows) row ↔ (Contains rows row × (is_hidden row ≡ false))
shown_where rows row = (
  λ h. (
    All-contains (Contains rows) (shown_rows rows) row (All-filter shows (Contains rows) rows (All-contains_itself rows)) h,
    not-true _ (All-contains (λ r. shows r ≡ true) (shown_rows rows) row (filter_passes shows rows) h),
  ),
  λ h. contained_filter shows row (ap not h.1) rows h.0.0 h.0.1 h.0.2,
)
