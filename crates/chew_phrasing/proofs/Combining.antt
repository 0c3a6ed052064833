-- The combined rows of a run, put together from those of its intervals.
use Rattle.std.proofs.Common.{◌≡◌, ℕ, zero, suc, ◌+◌, ◌-◌, ◌≤◌, true, false, List, [], ◌∷◌, ◌++◌, length, take, drop, map, filter, flat_map, min, Some, sym, ap, ap₂, ◌∙◌, append_assoc, arith}
use Rattle.std.specs.List.{range_with_len, slice_get}
use Rattle.std.proofs.lemmas.List.{length-drop, length-take}
use Rattle.std.proofs.lemmas.Bool.{cond-true, cond-false}
use Rattle.std.proofs.lemmas.Option.{none-some, same_Some}
use Rattle.chew_spec_syllable.specs.Row.{Row}
use Rattle.chew_spec_dictionary.specs.Call.{Hit}
use Rattle.chew_spec_dictionary.specs.Look.{Interval, codes_at}
use Rattle.chew_spec_dictionary.specs.Order.{in_order}
use Rattle.chew_spec_dictionary.specs.System.{rows_of}
use Rattle.chew_spec_phrasing.specs.CombinedRows.{combined, combined_hits, as_shown, found_rows, is_free_of, is_hit_at, is_shown, shown_hit, shown_hit_cmp, unsorted_hits}
use Rattle.chew_spec_dictionary.proofs.Order.{order_permutes, order_sorted}
use Rattle.chew_spec_dictionary.proofs.Rows.{shown_hit_total}
use Rattle.chew_spec_phrasing.proofs.Intervals.{flat_map-flat_map, flat_map-map}
use Rattle.chew_spec_phrasing.proofs.SortedHits.{hits_from_sorted}
use Rattle.chew_phrasing.specs.Combine.{combined_at, combined_from, interval}

-- what follows a place begins with the element there
drop_at : {X : Type 0} (xs : List X) (i : ℕ) (x : X) → slice_get xs i ≡ Some x → drop i xs ≡ x ∷ drop (suc i) xs
drop_at [] zero x e = absurd (none-some x e)
drop_at [] (suc i) x e = absurd (none-some x e)
drop_at (y ∷ xs) zero x e = ap (λ z. z ∷ xs) (same_Some y x e)
drop_at (y ∷ xs) (suc i) x e = drop_at xs i x e

-- a free row more
pub free_more : (at : Interval) (own : List Hit) (rows : List Row) (i : ℕ) (row : Row) (had now whole : List Hit) → slice_get rows i ≡ Some row → is_free_of own row ≡ true → now ≡ had ++ (shown_hit at row ∷ [])
    → had ++ map (shown_hit at) (filter (is_free_of own) (drop i rows)) ≡ whole → now ++ map (shown_hit at) (filter (is_free_of own) (drop (i + 1) rows)) ≡ whole
free_more at own rows i row had now whole is free more h =
    let rest = filter (is_free_of own) (drop (suc i) rows) in
    let first : filter (is_free_of own) (drop i rows) ≡ row ∷ rest = ap (filter (is_free_of own)) (drop_at rows i row is) ∙ cond-true (is_free_of own row) (row ∷ rest) rest free in
    ap (λ k. now ++ map (shown_hit at) (filter (is_free_of own) (drop k rows))) (let e : i + 1 ≡ suc i = omega arith in e)
    ∙ ap (λ list. list ++ map (shown_hit at) rest) more
    ∙ append_assoc had (shown_hit at row ∷ []) (map (shown_hit at) rest)
    ∙ sym (ap (λ list. had ++ map (shown_hit at) list) first)
    ∙ h

-- a row that isn't free
pub free_same : (at : Interval) (own : List Hit) (rows : List Row) (i : ℕ) (row : Row) (had now whole : List Hit) → slice_get rows i ≡ Some row → is_free_of own row ≡ false → now ≡ had
    → had ++ map (shown_hit at) (filter (is_free_of own) (drop i rows)) ≡ whole → now ++ map (shown_hit at) (filter (is_free_of own) (drop (i + 1) rows)) ≡ whole
free_same at own rows i row had now whole is taken same h =
    let rest = filter (is_free_of own) (drop (suc i) rows) in
    let first : filter (is_free_of own) (drop i rows) ≡ rest = ap (filter (is_free_of own)) (drop_at rows i row is) ∙ cond-false (is_free_of own row) (row ∷ rest) rest taken in
    ap (λ k. now ++ map (shown_hit at) (filter (is_free_of own) (drop k rows))) (let e : i + 1 ≡ suc i = omega arith in e)
    ∙ ap (λ list. list ++ map (shown_hit at) rest) same
    ∙ sym (ap (λ list. had ++ map (shown_hit at) list) first)
    ∙ h

-- the syllables from a start to an end are those of the interval
pub codes_between : (run : List ℕ) (at : Interval) (start len : ℕ) → interval start len ≡ at → take (start + len - start) (drop start run) ≡ codes_at run at
codes_between run at start len e =
    ap (λ n. take n (drop start run)) (let same : start + len - start ≡ len = omega arith in same)
    ∙ ap (codes_at run) e

-- the hits of an interval that are shown and the system's free rows, sorted, are its combined rows
pub combined_from_sorted : (system : List Row) (run key : List ℕ) (user : List Hit) (at : Interval) (found shown free joined sorted : List Hit) → at.start + at.len ≤ length run → key ≡ codes_at run at → found ≡ filter (is_hit_at at) user
    → shown ≡ map as_shown (filter is_shown found) → free ≡ map (shown_hit at) (filter (is_free_of found) (rows_of system key)) → joined ≡ shown ++ free → sorted ≡ in_order shown_hit_cmp joined
    → sorted ≡ combined_at system run user at
unfolding combined_at
combined_from_sorted system run key user at found shown free joined sorted inside codes all mine theirs both order =
    let whole = unsorted_hits system run user at in
    let same : joined ≡ whole =
    both ∙ ap₂ (λ xs ys. xs ++ ys) (mine ∙ ap (λ hits. map as_shown (filter is_shown hits)) all)
    (theirs ∙ ap₂ (λ hits k. map (shown_hit at) (filter (is_free_of hits) (rows_of system k))) all codes) in
    let long : length (codes_at run at) ≡ at.len = omega (arith, length-take at.len (drop at.start run), length-drop at.start run) in
    order ∙ ap (in_order shown_hit_cmp) same
    ∙ hits_from_sorted system run user at (in_order shown_hit_cmp whole) long (order_permutes shown_hit_cmp whole) (order_sorted shown_hit_cmp shown_hit_total whole)

-- the combined rows of a run are those of its starts
pub all_combined : (system : List Row) (run : List ℕ) (user : List Hit) → flat_map (combined_from system run user) (range_with_len 0 (length run)) ≡ combined_hits system run user
unfolding combined_hits combined_at
all_combined system run user =
    let f : Interval → List Hit = λ at. map (shown_hit at) (combined system (found_rows run user at) (codes_at run at)) in
    let lens = λ (start : ℕ). range_with_len 1 (min 11 (length run - start)) in
    sym (flat_map-flat_map f (λ start. map (interval start) (lens start)) (range_with_len 0 (length run))
    ∙ (λ i. flat_map (λ start. flat_map-map f (interval start) (lens start) i) (range_with_len 0 (length run))))
