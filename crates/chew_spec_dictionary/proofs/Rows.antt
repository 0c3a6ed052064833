-- The rows of a key: of a list with no pair twice, no two rows tie by their phrases.
use Rattle.std.proofs.lemmas.List.Sorted.{IsPermutation-refl}
use Rattle.std.proofs.Common.{◌≡◌, ℕ, zero, suc, ◌<◌, true, false, List, [], ◌∷◌, not, length, get_or, refl, ap, sym, ◌∙◌, ap₂, Ordering, Less, Equal, Greater, is_lt, is_gt, nat_cmp, Some, true≢false, Contains, IsPermutation, IsSorted, arith}
use Rattle.std.specs.List.{list_all, list_any}
use Rattle.std.specs.Cmp.{IsTotalOrder}
use Rattle.std.specs.Ordering.{ordering_then}
use Rattle.std.proofs.lemmas.Bool.{and_parts, and_from, false_from_ne_true, both_ways, not-true, or_from, cond_both}
use Rattle.std.proofs.lemmas.Cmp.{on_total, then_total, back_total, nat_cmp_total, nat_list_cmp_total}
use Rattle.std.proofs.lemmas.List.Elements.{All-contains, All-filter, All-contains_itself, filter_passes}
use Rattle.std.proofs.lemmas.List.Folds.{list_any_at}
use Rattle.std.proofs.lemmas.Map.Lookups.{exact_bytes}
use Rattle.std.proofs.lemmas.Slice.Eq.{bytes_eq-Decides}
use Rattle.chew_spec_syllable.specs.Row.{Row, image_cmp, is_pair_of, no_pair_twice}
use Rattle.chew_spec_dictionary.specs.Order.{in_order}
use Rattle.chew_spec_dictionary.specs.System.{row_of, rows_of, rows_under, is_under, phrase_cmp}
use Rattle.chew_spec_dictionary.specs.Call.{Hit}
use Rattle.chew_spec_dictionary.specs.Look.{shown_cmp, shown_hit_cmp}
use Rattle.chew_spec_dictionary.specs.Dictionary.{is_map}
use Rattle.chew_spec_dictionary.proofs.ImageOrder.{of_pair, is_of_pair, apart, image_of_key}
use Rattle.chew_spec_dictionary.proofs.Pairs.{found_first, found_later}
use Rattle.chew_spec_dictionary.proofs.Order.{sorted_is_order, sorted, Rises, NoneBelow, not_both}

-- the order of phrases is total
pub phrase_total : IsTotalOrder phrase_cmp
phrase_total = on_total (λ (row : Row). row.phrase) nat_list_cmp_total

-- the order in which phrases are shown is total
pub shown_total : IsTotalOrder shown_cmp
shown_total = then_total (back_total (on_total (λ (row : Row). row.freq) nat_cmp_total)) phrase_total

-- the order in which the hits of one interval are shown is total
pub shown_hit_total : IsTotalOrder shown_hit_cmp
shown_hit_total = then_total (back_total (on_total (λ (hit : Hit). hit.freq) nat_cmp_total)) (on_total (λ (hit : Hit). hit.phrase) nat_list_cmp_total)

-- where two comparisons tie, the second does
pub then_equal : (o p : Ordering) → ordering_then o p ≡ Equal → p ≡ Equal
then_equal Less p e = absurd (true≢false (ap is_lt e))
then_equal Equal p e = e
then_equal Greater p e = absurd (true≢false (ap is_gt e))

-- rows of phrases that tie have one phrase
phrase_ties : (x y : Row) → phrase_cmp x y ≡ Equal → x.phrase ≡ y.phrase
phrase_ties x y e = exact_bytes x.phrase y.phrase e

-- rows that tie in the order shown have one phrase
pub shown_ties : (x y : Row) → shown_cmp x y ≡ Equal → x.phrase ≡ y.phrase
shown_ties x y e = phrase_ties x y (then_equal (nat_cmp y.freq x.freq) (phrase_cmp x y) e)

-- a row that is below others is of another pair than they
below_apart : (row : Row) (rows : List Row) → list_all (λ later. is_lt (image_cmp row later)) rows ≡ true → list_any (is_pair_of row.key row.phrase) rows ≡ false
below_apart row [] b = refl
below_apart row (next ∷ rows) b =
    let both = and_parts (is_lt (image_cmp row next)) (list_all (λ later. is_lt (image_cmp row later)) rows) b in
    or_from _ _ (apart row next (image_cmp row next) refl (λ e. true≢false (sym both.0 ∙ ap is_lt e))) (below_apart row rows both.1)

-- a map has no pair twice
pub map_has_no_pair_twice : (rows : List Row) → is_map rows ≡ true → no_pair_twice rows ≡ true
map_has_no_pair_twice [] m = refl
map_has_no_pair_twice (row ∷ rows) m =
    let both = and_parts (list_all (λ later. is_lt (image_cmp row later)) rows) (is_map rows) m in
    and_from _ _ (ap not (below_apart row rows both.0)) (map_has_no_pair_twice rows both.1)

-- where no pair stands twice, the row at a place is that of its pair
found_at : (rows : List Row) (k : ℕ) (x : Row) → k < length rows → get_or rows k x ≡ x → no_pair_twice rows ≡ true → row_of rows x.key x.phrase ≡ Some x
found_at [] k x l e n = absurd (omega arith)
found_at (row ∷ rows) zero x l e n =
    let here = is_of_pair x.key x.phrase row (ap (λ (r : Row). r.key) e) (ap (λ (r : Row). r.phrase) e) in
    found_first x.key x.phrase row rows here ∙ ap (λ (r : Row). Some r) e
found_at (row ∷ rows) (suc k) x l e n =
    let both = and_parts (not (list_any (is_pair_of row.key row.phrase) rows)) (no_pair_twice rows) n in
    found_later x.key x.phrase row rows (false_from_ne_true _ (λ t. once both.0 t)) ∙ found_at rows k x (omega arith) e both.1
  where
    once : not (list_any (is_pair_of row.key row.phrase) rows) ≡ true → is_pair_of x.key x.phrase row ≡ true → ⊥
    once none t =
        let same = of_pair x.key x.phrase row t in
        let again : is_pair_of row.key row.phrase x ≡ true = is_of_pair row.key row.phrase x (sym same.0) (sym same.1) in
        let there = list_any_at (is_pair_of row.key row.phrase) rows k x (omega arith) (ap (is_pair_of row.key row.phrase) e ∙ again) in
        both_ways _ (not-true _ none) there

-- where no pair stands twice, each row is that of its pair
pub row_found : (rows : List Row) (x : Row) → no_pair_twice rows ≡ true → Contains rows x → row_of rows x.key x.phrase ≡ Some x
row_found rows x n h = found_at rows h.0 x h.1 h.2 n

-- rows of one pair in a list with no pair twice are equal
pair_once : (rows : List Row) (x y : Row) → no_pair_twice rows ≡ true → Contains rows x → Contains rows y → x.key ≡ y.key → x.phrase ≡ y.phrase → x ≡ y
pair_once rows x y n hx hy k p =
    let found : Some x ≡ Some y = sym (row_found rows x n hx) ∙ ap₂ (row_of rows) k p ∙ row_found rows y n hy in
    cc

-- a row under a key is one of the rows, and has the key
pub under_key : (rows : List Row) (key : List ℕ) (x : Row) → Contains (rows_under rows key) x → Contains rows x × (x.key ≡ key)
under_key rows key x h = (
  All-contains (Contains rows) (rows_under rows key) x (All-filter (is_under key) (Contains rows) rows (All-contains_itself rows)) h,
  (bytes_eq-Decides x.key key).0 (All-contains (λ row. is_under key row ≡ true) (rows_under rows key) x (filter_passes (is_under key) rows) h),
)

-- rows of a key that have one phrase are equal
same_phrase : (rows : List Row) (key : List ℕ) (x y : Row) → no_pair_twice rows ≡ true → Contains (rows_under rows key) x → Contains (rows_under rows key) y → x.phrase ≡ y.phrase → x ≡ y
same_phrase rows key x y n hx hy p =
    let ux = under_key rows key x hx in
    let uy = under_key rows key y hy in
    pair_once rows x y n ux.0 uy.0 (ux.1 ∙ sym uy.1) p

-- the rows of a key, sorted by their phrases
pub rows_sorted : (rows : List Row) (key : List ℕ) (ys : List Row) → no_pair_twice rows ≡ true → IsPermutation (rows_under rows key) ys → IsSorted phrase_cmp ys → rows_of rows key ≡ ys
rows_sorted rows key ys n moved up = sorted_is_order phrase_cmp phrase_total (rows_under rows key) ys (λ x y hx hy e. same_phrase rows key x y n hx hy (phrase_ties x y e)) moved up

-- the rows of a key, sorted as they are shown
pub shown_sorted : (rows : List Row) (key : List ℕ) (ys : List Row) → no_pair_twice rows ≡ true → IsPermutation (rows_under rows key) ys → IsSorted shown_cmp ys → in_order shown_cmp (rows_under rows key) ≡ ys
shown_sorted rows key ys n moved up = sorted_is_order shown_cmp shown_total (rows_under rows key) ys (λ x y hx hy e. same_phrase rows key x y n hx hy (shown_ties x y e)) moved up

-- a row of a key that is below others is not shown after those of the key, by their phrases
none_before : (key : List ℕ) (row : Row) (rows : List Row) → is_under key row ≡ true → list_all (λ later. is_lt (image_cmp row later)) rows ≡ true → NoneBelow phrase_cmp row (rows_under rows key)
none_before key row [] u b = tt
none_before key row (next ∷ rows) u b =
    let both = and_parts (is_lt (image_cmp row next)) (list_all (λ later. is_lt (image_cmp row later)) rows) b in
    let later = none_before key row rows u both.1 in
    cond_both (is_under key next) (next ∷ rows_under rows key) (rows_under rows key) (NoneBelow phrase_cmp row)
    (λ v. let same : row.key ≡ next.key = (bytes_eq-Decides row.key key).0 u ∙ sym ((bytes_eq-Decides next.key key).0 v) in
    (not_both phrase_cmp phrase_total row next (ap is_lt (sym (image_of_key row next same)) ∙ both.0), later))
    (λ _. later)

-- the rows of a key of a map rise by their phrases
under_rises : (rows : List Row) (key : List ℕ) → is_map rows ≡ true → Rises phrase_cmp (rows_under rows key)
under_rises [] key m = tt
under_rises (row ∷ rows) key m =
    let both = and_parts (list_all (λ later. is_lt (image_cmp row later)) rows) (is_map rows) m in
    let later = under_rises rows key both.1 in
    cond_both (is_under key row) (row ∷ rows_under rows key) (rows_under rows key) (Rises phrase_cmp)
    (λ u. (none_before key row rows u both.0, later))
    (λ _. later)

-- the rows of a key of a map are in the order of their phrases already
pub rows_of_map : (rows : List Row) (key : List ℕ) → is_map rows ≡ true → rows_of rows key ≡ rows_under rows key
rows_of_map rows key m = rows_sorted rows key (rows_under rows key) (map_has_no_pair_twice rows m) (IsPermutation-refl (rows_under rows key)) (sorted phrase_cmp (rows_under rows key) (under_rises rows key m))
