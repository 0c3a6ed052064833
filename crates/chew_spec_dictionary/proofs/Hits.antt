-- Each hit of a run is a row whose key is an interval of the run, and each such row is a hit.
use Rattle.std.proofs.Common.{◌≡◌, ℕ, zero, suc, ◌+◌, ◌-◌, ◌≤◌, ◌<◌, min, Bool, true, List, [], ◌∷◌, length, map, take, drop, get_or, refl, ap, sym, ◌∙◌, subst, All, Contains, arith}
use Rattle.std.specs.List.{filter, flat_map, range_with_len}
use Rattle.std.proofs.lemmas.Bool.{cond_both, true≢false}
use Rattle.std.proofs.lemmas.List.Elements.{All-nil, All-cons, All-append, All-map, All-weaker, All-contains, All-contains_itself, Contains-append_left, Contains-append_right}
use Rattle.std.proofs.lemmas.List.FromFn.{length-range_with_len, get_or-range_with_len}
use Rattle.std.proofs.lemmas.List.Sorted.{All-permutation, Contains-permutation}
use Rattle.std.proofs.lemmas.Slice.Eq.{bytes_eq-Decides}
use Rattle.chew_spec_syllable.specs.Row.{Row}
use Rattle.chew_spec_dictionary.specs.Call.{Hit}
use Rattle.chew_spec_dictionary.specs.HiddenPairs.{is_hidden}
use Rattle.chew_spec_dictionary.specs.Order.{in_order}
use Rattle.chew_spec_dictionary.specs.System.{rows_under, is_under}
use Rattle.chew_spec_dictionary.specs.Look.{Interval, intervals, codes_at, shown_cmp, hit_of, hits_of}
use Rattle.chew_spec_dictionary.proofs.Order.{order_permutes}
use Rattle.chew_spec_dictionary.proofs.Rows.{under_key}

module _ {X Y : Type 0} (f : X → List Y) where
  -- what holds of each part holds of the parts joined
  pub all_joined : (P : Y → Type 0) (xs : List X) → All (λ x. All P (f x)) xs → All P (flat_map f xs)
  all_joined P [] a = All-nil P
  all_joined P (x ∷ xs) a = All-append P (f x) (flat_map f xs) (a 0 x (omega arith)) (all_joined P xs (λ k d l. a (suc k) d (omega arith)))

  -- what stands in a part stands in the parts joined
  pub contained_joined : (xs : List X) (x : X) (y : Y) → Contains xs x → Contains (f x) y → Contains (flat_map f xs) y
  contained_joined xs x y h = at xs h.0 h.1 h.2
    where
      at : (xs : List X) (k : ℕ) → k < length xs → get_or xs k x ≡ x → Contains (f x) y → Contains (flat_map f xs) y
      at [] k l e c = absurd (omega arith)
      at (z ∷ zs) zero l e c = Contains-append_left (f z) (flat_map f zs) y (subst (λ (w : X). Contains (f w) y) (sym e) c)
      at (z ∷ zs) (suc k) l e c = Contains-append_right (f z) (flat_map f zs) y (at zs k (omega arith) e c)

-- what stands in a list stands in what a function makes of it
pub contained_map : {X Y : Type 0} (f : X → Y) (x : X) (xs : List X) (k : ℕ) → k < length xs → get_or xs k x ≡ x → Contains (map f xs) (f x)
contained_map f x [] k l e = absurd (omega arith)
contained_map f x (z ∷ zs) zero l e = (0, omega arith, ap f e)
contained_map f x (z ∷ zs) (suc k) l e = let c = contained_map f x zs k (omega arith) e in (suc c.0, omega (arith, c.1), c.2)

-- what passes a test and stands in a list stands in what the test keeps
pub contained_filter : {X : Type 0} (p : X → Bool) (x : X) → p x ≡ true → (xs : List X) (k : ℕ) → k < length xs → get_or xs k x ≡ x → Contains (filter p xs) x
contained_filter p x t [] k l e = absurd (omega arith)
contained_filter p x t (z ∷ zs) zero l e = cond_both (p z) (z ∷ filter p zs) (filter p zs) (λ ys. Contains ys x) (λ _. (0, omega arith, e)) (λ f. absurd (true≢false (sym t ∙ ap p (sym e) ∙ f)))
contained_filter p x t (z ∷ zs) (suc k) l e =
    let c = contained_filter p x t zs k (omega arith) e in
    cond_both (p z) (z ∷ filter p zs) (filter p zs) (λ ys. Contains ys x) (λ _. (suc c.0, omega (arith, c.1), c.2)) (λ _. c)

-- the numbers of a range
pub range_bounds : (a n : ℕ) → All (λ k. (a ≤ k) × (k < a + n)) (range_with_len a n)
range_bounds a zero = All-nil (λ k. (a ≤ k) × (k < a + zero))
range_bounds a (suc n) = All-cons (λ k. (a ≤ k) × (k < a + suc n)) a (range_with_len (a + 1) n) (omega arith, omega arith) (All-weaker (λ k. (a + 1 ≤ k) × (k < a + 1 + n)) (λ k. (a ≤ k) × (k < a + suc n)) (λ k h. (omega (arith, h.0), omega (arith, h.1))) (range_with_len (a + 1) n) (range_bounds (a + 1) n))

-- a number between the ends stands in a range
in_range : (a n k : ℕ) → a ≤ k → k < a + n → Contains (range_with_len a n) k
in_range a n k low high = (k - a, omega (arith, length-range_with_len a n), get_or-range_with_len a n (k - a) k (omega arith) ∙ omega arith)

-- the interval is one of 1 to 11 of n syllables
abbrev pub IsWithin : ℕ → Interval → Type 0
IsWithin n at = (1 ≤ at.len) × (at.len ≤ 11) × (at.start + at.len ≤ n)

-- the intervals that begin at one place
abbrev pub starting_at : ℕ → ℕ → List Interval
starting_at n start = map (λ len. record { start = start; len = len }) (range_with_len 1 (min 11 (n - start)))

-- they are such
starting_within : (n start : ℕ) → start < n → All (IsWithin n) (starting_at n start)
starting_within n start s = All-map (IsWithin n) (λ (len : ℕ). record { start = start; len = len }) (range_with_len 1 (min 11 (n - start)))
    (All-weaker (λ (k : ℕ). (1 ≤ k) × (k < 1 + min 11 (n - start))) (λ (len : ℕ). (1 ≤ len) × (len ≤ 11) × (start + len ≤ n)) (λ len h. (h.0, omega (arith, h.1), omega (arith, h.1))) (range_with_len 1 (min 11 (n - start))) (range_bounds 1 (min 11 (n - start))))

-- the intervals are such
intervals_within : (n : ℕ) → All (IsWithin n) (intervals n)
intervals_within n = all_joined (starting_at n) (IsWithin n) (range_with_len 0 n)
    (All-weaker (λ (k : ℕ). (0 ≤ k) × (k < 0 + n)) (λ (start : ℕ). All (IsWithin n) (starting_at n start)) (λ start s. starting_within n start (omega (arith, s.1))) (range_with_len 0 n) (range_bounds 0 n))

-- and all such are among them
pub interval_listed : (n : ℕ) (at : Interval) → IsWithin n at → Contains (intervals n) at
interval_listed n at w =
    let lens = in_range 1 (min 11 (n - at.start)) at.len w.0 (omega (arith, w.0, w.1, w.2)) in
    let found : Contains (starting_at n at.start) at = contained_map (λ (len : ℕ). record { start = at.start; len = len }) at.len (range_with_len 1 (min 11 (n - at.start))) lens.0 lens.1 lens.2 in
    contained_joined (starting_at n) (range_with_len 0 n) at.start at (in_range 0 n at.start (omega arith) (omega (arith, w.0, w.2))) found

-- an interval that is listed is such
pub listed_within : (n : ℕ) (at : Interval) → Contains (intervals n) at → (1 ≤ at.len) × (at.len ≤ 11) × (at.start + at.len ≤ n)
listed_within n at h = All-contains (IsWithin n) (intervals n) at (intervals_within n) h

-- the hits of an interval
abbrev pub hits_at : List Row → List ℕ → Interval → List Hit
hits_at rows run at = map (hit_of at) (in_order shown_cmp (rows_under rows (codes_at run at)))

-- a hit is a row whose key is an interval of 1 to 11 syllables of the run
abbrev pub IsRowOfRun : List Row → List ℕ → Hit → Type 0
IsRowOfRun rows run hit = ((1 ≤ hit.len) × (hit.len ≤ 11) × (hit.start + hit.len ≤ length run)) × ((row : Row) × Contains rows row × (row.key ≡ take hit.len (drop hit.start run)) × (row.phrase ≡ hit.phrase) × (row.freq ≡ hit.freq) × (is_hidden row ≡ hit.hidden))

-- the hits of an interval are such
hits_at_rows : (rows : List Row) (run : List ℕ) (at : Interval) → IsWithin (length run) at → All (IsRowOfRun rows run) (hits_at rows run at)
hits_at_rows rows run at w =
    let under = rows_under rows (codes_at run at) in
    All-map (IsRowOfRun rows run) (hit_of at) (in_order shown_cmp under)
    (All-permutation (λ (row : Row). IsRowOfRun rows run (hit_of at row)) under (in_order shown_cmp under) (order_permutes shown_cmp under)
    (All-weaker (Contains under) (λ (row : Row). IsRowOfRun rows run (hit_of at row)) (λ row h. let u = under_key rows (codes_at run at) row h in (w, (row, u.0, u.1, refl, refl, refl))) under (All-contains_itself under)))

-- every hit is such
pub hit_is_row : (rows : List Row) (run : List ℕ) (hit : Hit) → Contains (hits_of rows run) hit → IsRowOfRun rows run hit
unfolding hits_of
hit_is_row rows run hit h = All-contains (IsRowOfRun rows run) (flat_map (hits_at rows run) (intervals (length run))) hit
    (all_joined (hits_at rows run) (IsRowOfRun rows run) (intervals (length run))
    (All-weaker (IsWithin (length run)) (λ (at : Interval). All (IsRowOfRun rows run) (hits_at rows run at)) (λ at w. hits_at_rows rows run at w) (intervals (length run)) (intervals_within (length run)))) h

-- a row whose key is an interval of the run is a hit of it
pub row_is_hit : (rows : List Row) (run : List ℕ) (row : Row) (start len : ℕ) → Contains rows row → (1 ≤ len) × (len ≤ 11) × (start + len ≤ length run) → row.key ≡ take len (drop start run) → Contains (hits_of rows run) (record { start = start; len = len; phrase = row.phrase; freq = row.freq; hidden = is_hidden row })
unfolding hits_of
row_is_hit rows run row start len h w e =
    let at : Interval = record { start = start; len = len } in
    let under = rows_under rows (take len (drop start run)) in
    let passes = (bytes_eq-Decides row.key (take len (drop start run))).1 e in
    let held : Contains under row = contained_filter (is_under (take len (drop start run))) row passes rows h.0 h.1 h.2 in
    let shown = Contains-permutation under (in_order shown_cmp under) row (order_permutes shown_cmp under) held in
    contained_joined (hits_at rows run) (intervals (length run)) at (hit_of at row) (interval_listed (length run) at w) (contained_map (hit_of at) row (in_order shown_cmp under) shown.0 shown.1 shown.2)
