-- Rows with no pair twice have none twice once a test picks some of them, or they are put in an order;
-- in image order they are a map.
use Rattle.std.proofs.Common.{◌≡◌, ℕ, Bool, true, false, List, [], ◌∷◌, not, refl, ap, sym, ◌∙◌, Ordering, Less, Equal, Greater, is_lt, Some, None, ap₂, ⊎_elim}
use Rattle.std.specs.List.{filter, list_any, list_all}
use Rattle.std.specs.Ordering.{ordering_reverse}
use Rattle.std.proofs.lemmas.Bool.{cond-false, cond_both, and_parts, and_from, or_parts, or_from, not-true, false_from_ne_true, true≢false}
use Rattle.std.proofs.lemmas.List.Sorted.{list_any-IsPermutation, Contains-permutation, IsPermutation-sym}
use Rattle.chew_spec_syllable.specs.Row.{Row, image_cmp, is_pair_of, no_pair_twice}
use Rattle.chew_spec_dictionary.specs.Order.{put, in_order}
use Rattle.chew_spec_dictionary.specs.System.{row_of}
use Rattle.chew_spec_dictionary.specs.Dictionary.{is_map}
use Rattle.chew_spec_dictionary.proofs.ImageOrder.{image_total, of_pair, is_of_pair, tie_is_pair}
use Rattle.chew_spec_dictionary.proofs.Order.{put_permutes, order_permutes, order_rises, Rises, NoneBelow, not_both}
use Rattle.chew_spec_dictionary.proofs.Rows.{row_found}
use Rattle.chew_spec_dictionary.proofs.Found.{found_is_row, none_is_row}
use Rattle.chew_spec_dictionary.proofs.Learning.{held_or_not}

-- what a test keeps has no row that a failing test would find
none_kept : (p keep : Row → Bool) (rows : List Row) → list_any p rows ≡ false → list_any p (filter keep rows) ≡ false
none_kept p keep [] e = refl
none_kept p keep (row ∷ rows) e =
    let both = or_parts (p row) (list_any p rows) e in
    let later = none_kept p keep rows both.1 in
    cond_both (keep row) (row ∷ filter keep rows) (filter keep rows) (λ l. list_any p l ≡ false) (λ _. or_from _ _ both.0 later) (λ _. later)

-- what a test keeps has no pair twice where the rows don't
pub once_kept : (keep : Row → Bool) (rows : List Row) → no_pair_twice rows ≡ true → no_pair_twice (filter keep rows) ≡ true
once_kept keep [] n = refl
once_kept keep (row ∷ rows) n =
    let both = and_parts (not (list_any (is_pair_of row.key row.phrase) rows)) (no_pair_twice rows) n in
    let later = once_kept keep rows both.1 in
    cond_both (keep row) (row ∷ filter keep rows) (filter keep rows) (λ l. no_pair_twice l ≡ true)
    (λ _. and_from _ _ (ap not (none_kept (is_pair_of row.key row.phrase) keep rows (not-true _ both.0))) later)
    (λ _. later)

-- a row that is not of another's pair, the other way round
apart_back : (x y : Row) → is_pair_of x.key x.phrase y ≡ false → is_pair_of y.key y.phrase x ≡ false
apart_back x y f = false_from_ne_true _ (λ t. let same = of_pair y.key y.phrase x t in true≢false (sym (is_of_pair x.key x.phrase y (sym same.0) (sym same.1)) ∙ f))

-- a row put among others has no pair twice where it had none before them
once_put : (cmp : Row → Row → Ordering) (x : Row) (xs : List Row) → no_pair_twice (x ∷ xs) ≡ true → no_pair_twice (put cmp x xs) ≡ true
once_put cmp x [] n = refl
once_put cmp x (y ∷ ys) n =
    let all = and_parts (not (list_any (is_pair_of x.key x.phrase) (y ∷ ys))) (no_pair_twice (y ∷ ys)) n in
    let mine = or_parts (is_pair_of x.key x.phrase y) (list_any (is_pair_of x.key x.phrase) ys) (not-true _ all.0) in
    let rest = and_parts (not (list_any (is_pair_of y.key y.phrase) ys)) (no_pair_twice ys) all.1 in
    let later = once_put cmp x ys (and_from _ _ (ap not mine.1) rest.1) in
    let moved = list_any-IsPermutation (is_pair_of y.key y.phrase) (x ∷ ys) (put cmp x ys) (put_permutes cmp x ys) in
    let other = or_from (is_pair_of y.key y.phrase x) (list_any (is_pair_of y.key y.phrase) ys) (apart_back x y mine.0) (not-true _ rest.0) in
    cond_both (is_lt (cmp y x)) (y ∷ put cmp x ys) (x ∷ (y ∷ ys)) (λ l. no_pair_twice l ≡ true)
    (λ _. and_from _ _ (ap not (sym moved ∙ other)) later)
    (λ _. n)

-- rows in an order have no pair twice where the rows don't
pub once_ordered : (cmp : Row → Row → Ordering) (rows : List Row) → no_pair_twice rows ≡ true → no_pair_twice (in_order cmp rows) ≡ true
once_ordered cmp [] n = refl
once_ordered cmp (row ∷ rows) n =
    let both = and_parts (not (list_any (is_pair_of row.key row.phrase) rows)) (no_pair_twice rows) n in
    let moved = list_any-IsPermutation (is_pair_of row.key row.phrase) rows (in_order cmp rows) (order_permutes cmp rows) in
    once_put cmp row (in_order cmp rows) (and_from _ _ (ap not (sym moved ∙ not-true _ both.0)) (once_ordered cmp rows both.1))

-- a row that is not after another, nor of its pair, is below it
image_less : (x y : Row) → is_pair_of x.key x.phrase y ≡ false → is_lt (image_cmp y x) ≡ false → is_lt (image_cmp x y) ≡ true
image_less x y other after = by (image_cmp x y) refl
  where
    by : (o : Ordering) → image_cmp x y ≡ o → is_lt (image_cmp x y) ≡ true
    by Less e = ap is_lt e
    by Equal e = let same = tie_is_pair x y e in absurd (true≢false (sym (is_of_pair x.key x.phrase y (sym same.0) (sym same.1)) ∙ other))
    by Greater e = absurd (true≢false (sym (ap is_lt (image_total.antisymm y x ∙ ap ordering_reverse e)) ∙ after))

-- a row that none of others is before, nor of its pair, is below them
all_above : (x : Row) (ys : List Row) → list_any (is_pair_of x.key x.phrase) ys ≡ false → NoneBelow image_cmp x ys → list_all (λ later. is_lt (image_cmp x later)) ys ≡ true
all_above x [] none below = refl
all_above x (y ∷ ys) none below =
    let both = or_parts (is_pair_of x.key x.phrase y) (list_any (is_pair_of x.key x.phrase) ys) none in
    and_from _ _ (image_less x y both.0 below.0) (all_above x ys both.1 below.1)

-- rows that rise in image order and have no pair twice are a map
rising_map : (rows : List Row) → no_pair_twice rows ≡ true → Rises image_cmp rows → is_map rows ≡ true
rising_map [] n r = refl
rising_map (x ∷ xs) n r =
    let both = and_parts (not (list_any (is_pair_of x.key x.phrase) xs)) (no_pair_twice xs) n in
    and_from _ _ (all_above x xs (not-true _ both.0) r.0) (rising_map xs both.1 r.1)

-- rows with no pair twice are a map once they are put in image order
pub map_of_rows : (rows : List Row) → no_pair_twice rows ≡ true → is_map (in_order image_cmp rows) ≡ true
map_of_rows rows n = rising_map (in_order image_cmp rows) (once_ordered image_cmp rows n) (order_rises image_cmp image_total rows)

-- a row below all others is put before them
put_below : (row : Row) (rows : List Row) → list_all (λ later. is_lt (image_cmp row later)) rows ≡ true → put image_cmp row rows ≡ row ∷ rows
put_below row [] b = refl
put_below row (first ∷ rest) b =
    let both = and_parts (is_lt (image_cmp row first)) (list_all (λ later. is_lt (image_cmp row later)) rest) b in
    cond-false (is_lt (image_cmp first row)) (first ∷ put image_cmp row rest) (row ∷ (first ∷ rest)) (not_both image_cmp image_total row first both.0)

-- a map is in image order already
pub map_in_order : (rows : List Row) → is_map rows ≡ true → in_order image_cmp rows ≡ rows
map_in_order [] m = refl
map_in_order (row ∷ rows) m =
    let both = and_parts (list_all (λ later. is_lt (image_cmp row later)) rows) (is_map rows) m in
    ap (put image_cmp row) (map_in_order rows both.1) ∙ put_below row rows both.0

-- the look-ups of rows put in image order answer as the rows' do
pub map_answers : (rows : List Row) (key phrase : List ℕ) → no_pair_twice rows ≡ true → row_of (in_order image_cmp rows) key phrase ≡ row_of rows key phrase
map_answers rows key phrase n = ⊎_elim
    (λ (h : (row : Row) × (row_of rows key phrase ≡ Some row)).
    let f = found_is_row rows key phrase h.0 h.1 in
    let there = Contains-permutation rows (in_order image_cmp rows) h.0 (order_permutes image_cmp rows) f.0 in
    ap₂ (row_of (in_order image_cmp rows)) (sym f.1) (sym f.2) ∙ row_found (in_order image_cmp rows) h.0 (once_ordered image_cmp rows n) there ∙ sym h.1)
    (λ (none : row_of rows key phrase ≡ None). ⊎_elim
    (λ (h : (row : Row) × (row_of (in_order image_cmp rows) key phrase ≡ Some row)).
    let f = found_is_row (in_order image_cmp rows) key phrase h.0 h.1 in
    absurd (none_is_row rows key phrase h.0 none (Contains-permutation (in_order image_cmp rows) rows h.0 (IsPermutation-sym rows (in_order image_cmp rows) (order_permutes image_cmp rows)) f.0) f.1 f.2))
    (λ (gone : row_of (in_order image_cmp rows) key phrase ≡ None). gone ∙ sym none)
    (held_or_not (row_of (in_order image_cmp rows) key phrase)))
    (held_or_not (row_of rows key phrase))
