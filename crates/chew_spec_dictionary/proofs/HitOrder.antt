-- The hits of a run in their order, no two of which tie.
use Rattle.chew_spec_dictionary.proofs.Once.{once_ordered, once_kept}
use Rattle.std.proofs.Common.{◌≡◌, ℕ, ◌-◌, ◌<◌, min, Bool, true, false, List, [], ◌∷◌, not, length, get_or, refl, ap, sym, ◌∙◌, cond, Ordering, Less, Equal, Greater, is_lt, nat_cmp, eqb, true≢false, All, Contains}
use Rattle.std.specs.List.{flat_map, range_with_len, list_any, AllAdjacentBelow}
use Rattle.std.specs.Ordering.{ordering_then, ordering_reverse}
use Rattle.std.proofs.lemmas.Bool.{and_parts, or_parts, not-true, lt-ltb}
use Rattle.std.proofs.lemmas.Cmp.{nat_cmp_total, tied_itself}
use Rattle.std.proofs.lemmas.List.Elements.{All-nil, All-cons, All-map, All-weaker, All-head, All-tail, All-contains_itself}
use Rattle.std.proofs.lemmas.List.Sorted.{All-permutation}
use Rattle.chew_spec_syllable.specs.Row.{Row, is_pair_of, no_pair_twice}
use Rattle.chew_spec_dictionary.specs.Call.{Hit}
use Rattle.chew_spec_dictionary.specs.Order.{in_order}
use Rattle.chew_spec_dictionary.specs.System.{rows_under, is_under}
use Rattle.chew_spec_dictionary.specs.Look.{Interval, intervals, codes_at, shown_cmp, hit_cmp, hit_of, hits_of}
use Rattle.chew_spec_dictionary.proofs.ImageOrder.{is_of_pair}
use Rattle.chew_spec_dictionary.proofs.Order.{order_permutes, Rises, NoneBelow, order_rises}
use Rattle.chew_spec_dictionary.proofs.Rows.{shown_total, shown_ties, under_key}
use Rattle.chew_spec_dictionary.proofs.Hits.{starting_at, hits_at}
use Rattle.chew_spec_dictionary.proofs.Strict.{IsStrict, strict_joined, strict_map, strict_range, strict_neighbours}

-- a number is less than a greater one
less : (a b : ℕ) → a < b → nat_cmp a b ≡ Less
less a b l = ap (λ (t : Bool). cond t Less (cond (eqb a b) Equal Greater)) (lt-ltb a b l)

-- an interval begins before another, or begins there and is shorter
data Earlier (at other : Interval) : Type 0 where
  Before : (l : at.start < other.start) → Earlier at other
  Shorter : (e : at.start ≡ other.start) (l : at.len < other.len) → Earlier at other

-- the intervals come in this order
intervals_strict : (n : ℕ) → IsStrict Earlier (intervals n)
intervals_strict n = strict_joined (λ (x y : ℕ). x < y) Earlier (starting_at n) apart (range_with_len 0 n) (strict_range 0 n) (λ k d l. one (get_or (range_with_len 0 n) k d))
  where
    apart : (x z : ℕ) → x < z → All (λ at. All (Earlier at) (starting_at n z)) (starting_at n x)
    apart x z l = All-map (λ (at : Interval). All (Earlier at) (starting_at n z)) (λ (len : ℕ). record { start = x; len = len }) (range_with_len 1 (min 11 (n - x)))
        (λ k d m. let at : Interval = record { start = x; len = get_or (range_with_len 1 (min 11 (n - x))) k d } in
        All-map (Earlier at) (λ (len : ℕ). record { start = z; len = len }) (range_with_len 1 (min 11 (n - z))) (λ j e o. Before l))

    one : (start : ℕ) → IsStrict Earlier (starting_at n start)
    one start = strict_map Earlier (λ (len : ℕ). record { start = start; len = len }) (range_with_len 1 (min 11 (n - start))) (shorter (range_with_len 1 (min 11 (n - start))) (strict_range 1 (min 11 (n - start))))
      where
        shorter : (ls : List ℕ) → IsStrict (λ (x y : ℕ). x < y) ls → IsStrict (λ (x y : ℕ). Earlier (record { start = start; len = x }) (record { start = start; len = y })) ls
        shorter [] s = tt
        shorter (x ∷ ls) s = (All-weaker (λ (y : ℕ). x < y) (λ (y : ℕ). Earlier (record { start = start; len = x }) (record { start = start; len = y })) (λ y l. Shorter refl l) ls s.0, shorter ls s.1)

-- hits of an earlier interval come before those of a later one
earlier_less : (at other : Interval) (row next : Row) → Earlier at other → hit_cmp (hit_of at row) (hit_of other next) ≡ Less
earlier_less at other row next (Before l) = ap (λ (o : Ordering). ordering_then o (ordering_then (nat_cmp at.len other.len) (shown_cmp row next))) (less at.start other.start l)
earlier_less at other row next (Shorter e l) =
    ap (λ (s : ℕ). ordering_then (nat_cmp at.start s) (ordering_then (nat_cmp at.len other.len) (shown_cmp row next))) (sym e)
    ∙ ap (λ (o : Ordering). ordering_then o (ordering_then (nat_cmp at.len other.len) (shown_cmp row next))) (tied_itself nat_cmp_total at.start)
    ∙ ap (λ (o : Ordering). ordering_then o (shown_cmp row next)) (less at.len other.len l)

-- hits of one interval compare as their rows are shown
one_interval : (at : Interval) (row next : Row) → hit_cmp (hit_of at row) (hit_of at next) ≡ shown_cmp row next
one_interval at row next =
    ap (λ (o : Ordering). ordering_then o (ordering_then (nat_cmp at.len at.len) (shown_cmp row next))) (tied_itself nat_cmp_total at.start)
    ∙ ap (λ (o : Ordering). ordering_then o (shown_cmp row next)) (tied_itself nat_cmp_total at.len)

-- a row of a key that is not of another row's pair, and isn't shown after it, is shown before it
shown_less : (key : List ℕ) (x y : Row) → x.key ≡ key → y.key ≡ key → is_pair_of x.key x.phrase y ≡ false → is_lt (shown_cmp y x) ≡ false → shown_cmp x y ≡ Less
shown_less key x y kx ky other later = by (shown_cmp x y) refl
  where
    by : (o : Ordering) → shown_cmp x y ≡ o → shown_cmp x y ≡ Less
    by Less e = e
    by Equal e = absurd (true≢false (sym (is_of_pair x.key x.phrase y (ky ∙ sym kx) (sym (shown_ties x y e))) ∙ other))
    by Greater e = absurd (true≢false (sym (ap is_lt (shown_total.antisymm y x ∙ ap ordering_reverse e)) ∙ later))

-- rows of a key that are not shown before a row, nor of its pair, are shown after it
all_less : (key : List ℕ) (x : Row) (ys : List Row) → x.key ≡ key → All (λ (y : Row). y.key ≡ key) ys → list_any (is_pair_of x.key x.phrase) ys ≡ false → NoneBelow shown_cmp x ys → All (λ (y : Row). shown_cmp x y ≡ Less) ys
all_less key x [] kx ks none below = All-nil (λ (y : Row). shown_cmp x y ≡ Less)
all_less key x (y ∷ ys) kx ks none below =
    let both = or_parts (is_pair_of x.key x.phrase y) (list_any (is_pair_of x.key x.phrase) ys) none in
    All-cons (λ (z : Row). shown_cmp x z ≡ Less) y ys
    (shown_less key x y kx (All-head (λ (z : Row). z.key ≡ key) y ys ks) both.0 below.0)
    (all_less key x ys kx (All-tail (λ (z : Row). z.key ≡ key) y ys ks) both.1 below.1)

-- rows of a key that rise and have no pair twice
rows_strict : (key : List ℕ) (rows : List Row) → All (λ (row : Row). row.key ≡ key) rows → no_pair_twice rows ≡ true → Rises shown_cmp rows → IsStrict (λ (x y : Row). shown_cmp x y ≡ Less) rows
rows_strict key [] ks n r = tt
rows_strict key (x ∷ xs) ks n r =
    let both = and_parts (not (list_any (is_pair_of x.key x.phrase) xs)) (no_pair_twice xs) n in
    let tail = All-tail (λ (z : Row). z.key ≡ key) x xs ks in
    (all_less key x xs (All-head (λ (z : Row). z.key ≡ key) x xs ks) tail (not-true _ both.0) r.0, rows_strict key xs tail both.1 r.1)

-- hits of one interval, from their rows
as_hits : (at : Interval) (rows : List Row) → IsStrict (λ (x y : Row). shown_cmp x y ≡ Less) rows → IsStrict (λ (x y : Row). hit_cmp (hit_of at x) (hit_of at y) ≡ Less) rows
as_hits at [] s = tt
as_hits at (x ∷ xs) s = (All-weaker (λ (y : Row). shown_cmp x y ≡ Less) (λ (y : Row). hit_cmp (hit_of at x) (hit_of at y) ≡ Less) (λ y l. one_interval at x y ∙ l) xs s.0, as_hits at xs s.1)

-- the hits of an interval
at_strict : (rows : List Row) (run : List ℕ) (at : Interval) → no_pair_twice rows ≡ true → IsStrict (λ (x y : Hit). hit_cmp x y ≡ Less) (hits_at rows run at)
at_strict rows run at n =
    let key = codes_at run at in
    let under = rows_under rows key in
    let shown = in_order shown_cmp under in
    let keys = All-permutation (λ (row : Row). row.key ≡ key) under shown (order_permutes shown_cmp under) (All-weaker (Contains under) (λ (row : Row). row.key ≡ key) (λ row h. (under_key rows key row h).1) under (All-contains_itself under)) in
    let strict = rows_strict key shown keys (once_ordered shown_cmp under (once_kept (is_under key) rows n)) (order_rises shown_cmp shown_total under) in
    strict_map (λ (x y : Hit). hit_cmp x y ≡ Less) (hit_of at) shown (as_hits at shown strict)

-- the hits of an earlier interval come before those of a later one
intervals_apart : (rows : List Row) (run : List ℕ) (at other : Interval) → Earlier at other → All (λ (x : Hit). All (λ (y : Hit). hit_cmp x y ≡ Less) (hits_at rows run other)) (hits_at rows run at)
intervals_apart rows run at other e =
    let mine = in_order shown_cmp (rows_under rows (codes_at run at)) in
    let others = in_order shown_cmp (rows_under rows (codes_at run other)) in
    All-map (λ (x : Hit). All (λ (y : Hit). hit_cmp x y ≡ Less) (hits_at rows run other)) (hit_of at) mine
    (λ k d l. All-map (λ (y : Hit). hit_cmp (hit_of at (get_or mine k d)) y ≡ Less) (hit_of other) others (λ j c m. earlier_less at other (get_or mine k d) (get_or others j c) e))

-- the hits of a run
pub hits_rising : (rows : List Row) (run : List ℕ) → no_pair_twice rows ≡ true → AllAdjacentBelow (λ (hit next : Hit). hit_cmp hit next ≡ Less) (hits_of rows run) (length (hits_of rows run))
unfolding hits_of
hits_rising rows run n = strict_neighbours (λ (x y : Hit). hit_cmp x y ≡ Less) (flat_map (hits_at rows run) (intervals (length run)))
    (strict_joined Earlier (λ (x y : Hit). hit_cmp x y ≡ Less) (hits_at rows run) (intervals_apart rows run) (intervals (length run)) (intervals_strict (length run)) (λ k d l. at_strict rows run (get_or (intervals (length run)) k d) n))
