-- Rows whose pairs rise in an order have no pair twice, in whatever order they stand.
use Rattle.std.proofs.Common.{◌≡◌, ℕ, ◌+◌, ◌-◌, ◌<◌, ◌≤◌, Bool, true, false, ◌&&◌, List, [], ◌∷◌, map, get_or, length, Bor, Ordering, Less, Equal, Greater, is_lt, refl, sym, ap, ap₂, subst, ◌∙◌, ⊎_elim, arith}
use Rattle.std.specs.Cmp.{IsTotalOrder, tied_then}
use Rattle.std.specs.Cmp.Lexicographic.{slice_cmp}
use Rattle.std.specs.List.{AllByRecursion, IsDistinct, list_any}
use Rattle.std.specs.List.Sorted.{IsPermutation, IsStrictlySortedBy}
use Rattle.std.specs.Ordering.{eq_by_cmp, nat_cmp}
use Rattle.std.proofs.lemmas.Bool.{and_from, cases_eq, not_from_false, or_from}
use Rattle.std.proofs.lemmas.Cmp.{eq_by_cmp_equiv, nat_list_cmp_total, on_total, then_total}
use Rattle.std.proofs.lemmas.List.{get_or-map, length-map}
use Rattle.std.proofs.lemmas.List.Sorted.{IsPermutation-map, IsPermutation-sym}
use Rattle.std.proofs.lemmas.Map.Keys.{IsDistinct-IsPermutation, IsDistinct-from_sorted, IsDistinct-head, IsDistinct-tail, sorted_from_all_adjacent}
use Rattle.std.proofs.lemmas.Map.Text.{is_eq-slice_cmp}
use Rattle.chew_spec_syllable.specs.Row.{Row, is_pair_of, no_pair_twice}
use Rattle.chew_rows.specs.Pairs.{row_cmp}

-- the order is total
row_total : IsTotalOrder row_cmp
row_total = then_total (on_total (λ (row : Row). row.key) nat_list_cmp_total) (on_total (λ (row : Row). row.phrase) nat_list_cmp_total)

-- rows that tie are of one pair
row_ties : (row other : Row) → eq_by_cmp row_cmp row other ≡ is_pair_of other.key other.phrase row
row_ties row other =
    sym (tied_then (slice_cmp nat_cmp row.key other.key) (slice_cmp nat_cmp row.phrase other.phrase))
    ∙ ap₂ (λ (a b : Bool). a && b) (is_eq-slice_cmp row.key other.key) (is_eq-slice_cmp row.phrase other.phrase)

flips : (row other : Row) → eq_by_cmp row_cmp row other ≡ eq_by_cmp row_cmp other row
flips row other = (eq_by_cmp_equiv row_total).symm row other

none_of_pair : (row : Row) (rows : List Row) → AllByRecursion (λ other. eq_by_cmp row_cmp row other ≡ false) rows → list_any (is_pair_of row.key row.phrase) rows ≡ false
none_of_pair row [] h = refl
none_of_pair row (other ∷ rows) h = or_from _ _ (sym (row_ties other row) ∙ (flips other row ∙ h.0)) (none_of_pair row rows h.1)

once-from_IsDistinct : (rows : List Row) → IsDistinct (eq_by_cmp row_cmp) rows → no_pair_twice rows ≡ true
once-from_IsDistinct [] h = refl
once-from_IsDistinct (row ∷ rows) h =
    and_from _ _ (not_from_false _ (none_of_pair row rows (IsDistinct-head (eq_by_cmp row_cmp) row rows h)))
    (once-from_IsDistinct rows (IsDistinct-tail (eq_by_cmp row_cmp) row rows h))

-- rows that are put into an order in which they rise
pub once-from_rising : (rows sorted : List Row) → IsPermutation rows sorted → IsStrictlySortedBy row_cmp sorted → no_pair_twice rows ≡ true
once-from_rising rows sorted p h =
    once-from_IsDistinct rows (IsDistinct-IsPermutation (eq_by_cmp row_cmp) flips sorted rows (IsPermutation-sym rows sorted p) (IsDistinct-from_sorted row_cmp sorted h))

-- a row that stands for none
abbrev pub no_row : Row
no_row = record { key = []; phrase = []; freq = 0; time = 0 }

-- the row at a place comes before the one behind it
abbrev pub IsBeforeNext : List Row → ℕ → Type 0
IsBeforeNext rows k = row_cmp (get_or rows k no_row) (get_or rows (k + 1) no_row) ≡ Less

-- rows that are lent
abbrev pub lent_rows : List (Bor Row) → List Row
lent_rows rows = map (λ (row : Bor Row). row.now) rows

less_from_is_lt : (o : Ordering) → is_lt o ≡ true → o ≡ Less
less_from_is_lt Less e = refl
less_from_is_lt Equal e = absurd cc
less_from_is_lt Greater e = absurd cc

lent_at : (rows : List (Bor Row)) (k : ℕ) (row : Bor Row) → k < length rows → row ≡ get_or rows k row → get_or (lent_rows rows) k no_row ≡ row.now
lent_at rows k row l e = get_or-map (λ (r : Bor Row). r.now) rows k row no_row l ∙ ap (λ (r : Bor Row). r.now) (sym e)

-- one row more that comes before the next
pub rising_more : (rows : List (Bor Row)) (place : ℕ) (row next : Bor Row) → 1 ≤ place → place < length rows → row ≡ get_or rows (place - 1) row → next ≡ get_or rows place next
    → is_lt (row_cmp row.now next.now) ≡ true → ((k : ℕ) → k + 1 < place → IsBeforeNext (lent_rows rows) k) → (k : ℕ) → k + 1 < place + 1 → IsBeforeNext (lent_rows rows) k
rising_more rows place row next some l e f less before k h = ⊎_elim
    (λ at. let back : k ≡ place - 1 = omega arith in
    ap₂ row_cmp (ap (λ n. get_or (lent_rows rows) n no_row) back ∙ lent_at rows (place - 1) row (omega arith) e)
    (ap (λ n. get_or (lent_rows rows) n no_row) at ∙ lent_at rows place next l f) ∙ less_from_is_lt (row_cmp row.now next.now) less)
    (λ other. before k (omega arith)) (cases_eq (k + 1) place)

-- rows that rise to their end
pub rising_all : (rows : List (Bor Row)) (place : ℕ) → length rows ≤ place → ((k : ℕ) → k + 1 < place → IsBeforeNext (lent_rows rows) k) → IsStrictlySortedBy row_cmp (lent_rows rows)
rising_all rows place l h =
    let long : length (lent_rows rows) ≡ length rows = length-map rows (λ (row : Bor Row). row.now) in
    sorted_from_all_adjacent row_total (lent_rows rows) no_row (λ k m. h k (omega arith))

-- rows that were lent, and then sorted
pub permutation_lent : (rows : List Row) (lent sorted : List (Bor Row)) → lent_rows lent ≡ rows → IsPermutation lent sorted → IsPermutation rows (lent_rows sorted)
permutation_lent rows lent sorted e p = subst (λ (rs : List Row). IsPermutation rs (lent_rows sorted)) e (IsPermutation-map (λ (row : Bor Row). row.now) lent sorted p)
