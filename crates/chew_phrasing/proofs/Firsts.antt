-- The first row of an interval is the first of its combined rows that keeps the choices.
use Rattle.std.proofs.Common.{◌≡◌, ℕ, ◌+◌, ◌≤◌, Bool, true, false, cond, ◌&&◌, ⊎_elim, List, [], ◌∷◌, ◌++◌, map, filter, find, length, drop, All, Contains, Option, Some, None, is_lt, sym, refl, ap, ap₂, ◌∙◌, subst, true≢false, arith}
use Rattle.std.proofs.lemmas.List.{length-drop, length-take}
use Rattle.std.proofs.lemmas.List.Elements.{All-append, All-contains, All-filter, All-head, All-map, All-tail, All-weaker, filter_passes}
use Rattle.std.proofs.lemmas.List.Sorted.{All-permutation}
use Rattle.chew_spec_syllable.specs.Row.{Row}
use Rattle.chew_spec_dictionary.specs.Call.{Hit}
use Rattle.chew_spec_dictionary.specs.Look.{Interval, codes_at, hit_of, intervals, shown_hit_cmp}
use Rattle.chew_spec_dictionary.specs.Order.{in_order}
use Rattle.chew_spec_dictionary.specs.System.{rows_of}
use Rattle.chew_spec_dictionary.proofs.Order.{NoneBelow, Rises, order_permutes, order_rises, order_sorted}
use Rattle.chew_spec_dictionary.proofs.Rows.{shown_hit_total}
use Rattle.chew_spec_phrasing.specs.CombinedRows.{as_shown, combined, combined_hits, found_rows, is_free_of, is_hit_at, is_shown, shown_hit, unsorted_hits}
use Rattle.chew_spec_phrasing.specs.Usable.{Choice, first_row}
use Rattle.chew_spec_phrasing.proofs.Greatest.{tied_from_both}
use Rattle.chew_spec_phrasing.proofs.InOrder.{Contains-from_in_order, Contains-in_order}
use Rattle.chew_spec_phrasing.proofs.Intervals.{IsIn, flat_map_alike, hits_at, map-map}
use Rattle.chew_spec_phrasing.proofs.Membership.{Contains-cases, Contains-head, Contains-tail}
use Rattle.chew_spec_phrasing.proofs.SortedHits.{IsHitOf, IsHitOf-from_test, hits_from_sorted, same_hits}
use Rattle.chew_phrasing.specs.Least.{IsLeast, keeps}

none_below : (x y : Hit) (ys : List Hit) → NoneBelow shown_hit_cmp x ys → Contains ys y → is_lt (shown_hit_cmp y x) ≡ false
none_below x y [] h i = absurd (omega (arith, i.1))
none_below x y (z ∷ ys) h i = ⊎_elim (λ same. subst (λ w. is_lt (shown_hit_cmp w x) ≡ false) same h.0) (λ later. none_below x y ys h.1 later) (Contains-cases z ys y i)

-- of hits of one interval that rise, the first that passes is the one that none before it is shown before
found_rising : (at : Interval) (passes : Hit → Bool) (ys : List Hit) (x : Hit) → Rises shown_hit_cmp ys → All (IsHitOf at) ys → Contains ys x → passes x ≡ true
    → ((y : Hit) → Contains ys y → passes y ≡ true → is_lt (shown_hit_cmp y x) ≡ false) → find passes ys ≡ Some x
found_rising at passes [] x r h i p top = absurd (omega (arith, i.1))
found_rising at passes (y ∷ ys) x r h i p top =
    by_test (passes y) refl (λ later. found_rising at passes ys x r.1 (All-tail (IsHitOf at) y ys h) later p (λ z k q. top z (Contains-tail y ys z k) q))
  where
    by_test : (b : Bool) → passes y ≡ b → (Contains ys x → find passes ys ≡ Some x) → cond b (Some y) (find passes ys) ≡ Some x
    by_test true e rest = ⊎_elim
        (λ same. ap Some same)
        (λ later. ap Some (same_hits at y x (All-head (IsHitOf at) y ys h) (All-contains (IsHitOf at) ys x (All-tail (IsHitOf at) y ys h) later)
        (tied_from_both shown_hit_cmp shown_hit_total y x (top y (Contains-head y ys) e) (none_below y x ys r.0 later))))
        (Contains-cases y ys x i)
    by_test false e rest = ⊎_elim (λ same. absurd (true≢false (sym p ∙ (ap passes (sym same) ∙ e)))) (λ later. rest later) (Contains-cases y ys x i)

none_found : (passes : Hit → Bool) (ys : List Hit) → ((y : Hit) → Contains ys y → passes y ≡ false) → find passes ys ≡ None
none_found passes [] h = refl
none_found passes (y ∷ ys) h = ap (λ b. cond b (Some y) (find passes ys)) (h y (Contains-head y ys)) ∙ none_found passes ys (λ z i. h z (Contains-tail y ys z i))

-- the first of hits of one interval is the first of them in order that passes
found_in_order : (at : Interval) (passes : Hit → Bool) (xs : List Hit) (o : Option Hit) → All (IsHitOf at) xs → IsLeast passes xs o → find passes (in_order shown_hit_cmp xs) ≡ o
found_in_order at passes xs None h l = none_found passes (in_order shown_hit_cmp xs) (λ y i. l.none refl y (Contains-from_in_order shown_hit_cmp xs y i))
found_in_order at passes xs (Some x) h l =
    let b = l.some x refl in
    found_rising at passes (in_order shown_hit_cmp xs) x (order_rises shown_hit_cmp shown_hit_total xs) (All-permutation (IsHitOf at) xs (in_order shown_hit_cmp xs) (order_permutes shown_hit_cmp xs) h)
    (Contains-in_order shown_hit_cmp xs x b.among) b.does (λ y i p. b.unbeaten y (Contains-from_in_order shown_hit_cmp xs y i) p)

all_of_interval : (system : List Row) (run : List ℕ) (user : List Hit) (at : Interval) → All (IsHitOf at) (unsorted_hits system run user at)
all_of_interval system run user at =
    let mine = filter (is_hit_at at) user in
    let theirs = filter (is_free_of mine) (rows_of system (codes_at run at)) in
    All-append (IsHitOf at) (map as_shown (filter is_shown mine)) (map (shown_hit at) theirs)
    (All-map (IsHitOf at) as_shown (filter is_shown mine)
    (All-weaker (λ hit. is_hit_at at hit ≡ true) (λ hit. IsHitOf at (as_shown hit)) (λ hit e. IsHitOf-from_test at hit e) (filter is_shown mine) (All-filter is_shown (λ hit. is_hit_at at hit ≡ true) mine (filter_passes (is_hit_at at) user))))
    (All-map (IsHitOf at) (shown_hit at) theirs (λ k d l. (refl, refl, refl)))

-- a test of two is one after the other
find_both : (p q : Hit → Bool) (xs : List Hit) → find (λ x. p x && q x) xs ≡ find q (filter p xs)
find_both p q [] = refl
find_both p q (x ∷ xs) = by_test (p x) (find_both p q xs)
  where
    by_test : (b : Bool) → find (λ y. p y && q y) xs ≡ find q (filter p xs) → cond (b && q x) (Some x) (find (λ y. p y && q y) xs) ≡ find q (cond b (x ∷ filter p xs) (filter p xs))
    by_test true rest = ap (cond (q x) (Some x)) rest
    by_test false rest = rest

-- a row of which no more is known than is shown
plain : Row → Row
plain row = record { key = []; phrase = row.phrase; freq = row.freq; time = 0 }

-- of all combined rows those of an interval are its own
own_rows : (system : List Row) (run : List ℕ) (user : List Hit) (at : Interval) → IsIn (length run) at → filter (is_hit_at at) (combined_hits system run user) ≡ map (shown_hit at) (combined system (found_rows run user at) (codes_at run at))
unfolding combined_hits plain
own_rows system run user at inside =
    let rows = λ (i : Interval). combined system (found_rows run user i) (codes_at run i) in
    ap (filter (is_hit_at at)) (flat_map_alike (λ i. map (shown_hit i) (rows i)) (λ i. map (hit_of i) (map plain (rows i))) (intervals (length run)) (λ i h. sym (map-map (hit_of i) plain (rows i))))
    ∙ (hits_at (λ i. map plain (rows i)) (length run) at inside ∙ map-map (hit_of at) plain (rows at))

-- the first row that was found for an interval of the run is the first of its combined rows
pub first_of_run : (system : List Row) (run key : List ℕ) (user found : List Hit) (choices : List Choice) (at : Interval) (o : Option Hit) → 1 ≤ at.len → at.len ≤ 11 → at.start + at.len ≤ length run → key ≡ codes_at run at → found ≡ filter (is_hit_at at) user
    → IsLeast (keeps choices at) (map as_shown (filter is_shown found) ++ map (shown_hit at) (filter (is_free_of found) (rows_of system key))) o → first_row (combined_hits system run user) choices at ≡ o
first_of_run system run key user found choices at o some few within codes all h =
    let whole = unsorted_hits system run user at in
    let long : length (codes_at run at) ≡ at.len = omega (arith, length-take at.len (drop at.start run), length-drop at.start run) in
    let inside : IsIn (length run) at = record { starts = omega arith; from_one = some; fits = omega arith } in
    let least : IsLeast (keeps choices at) whole o =
    subst (λ hits. IsLeast (keeps choices at) hits o) (ap₂ (λ hits k. map as_shown (filter is_shown hits) ++ map (shown_hit at) (filter (is_free_of hits) (rows_of system k))) all codes) h in
    find_both (is_hit_at at) (keeps choices at) (combined_hits system run user)
    ∙ (ap (find (keeps choices at)) (own_rows system run user at inside
    ∙ sym (hits_from_sorted system run user at (in_order shown_hit_cmp whole) long (order_permutes shown_hit_cmp whole) (order_sorted shown_hit_cmp shown_hit_total whole)))
    ∙ found_in_order at (keeps choices at) whole o (all_of_interval system run user at) least)
