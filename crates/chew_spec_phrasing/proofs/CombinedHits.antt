-- The combined rows of every interval, from what a look-up found, are those of the user's own rows.
use Rattle.std.proofs.Common.{◌≡◌, ℕ, Bool, true, false, not, cond, ◌&&◌, ◌||◌, List, [], ◌∷◌, ◌++◌, length, map, filter, flat_map, All, bytes_eq, sym, refl, ap, ap₂, ◌∙◌}
use Rattle.std.proofs.lemmas.List.{map-append}
use Rattle.std.specs.Prelude.{◌==◌, if◌then◌else◌}
use Rattle.std.proofs.lemmas.Bool.{and_parts}
use Rattle.std.proofs.lemmas.List.Elements.{All-append, All-head, All-map, All-tail, filter_agree}
use Rattle.std.proofs.lemmas.List.Sorted.{All-permutation}
use Rattle.chew_spec_syllable.specs.Row.{Row}
use Rattle.chew_spec_dictionary.specs.Call.{Hit}
use Rattle.chew_spec_dictionary.specs.HiddenPairs.{can_hide, hidden_time, is_hidden, shown_rows}
use Rattle.chew_spec_dictionary.specs.Look.{Interval, codes_at, hit_of, hits_of, intervals, shown_cmp}
use Rattle.chew_spec_dictionary.specs.Order.{in_order}
use Rattle.chew_spec_dictionary.specs.System.{rows_under}
use Rattle.chew_spec_dictionary.proofs.Order.{order_permutes, order_sorted}
use Rattle.chew_spec_dictionary.proofs.Rows.{shown_hit_total, under_key}
use Rattle.chew_spec_dictionary.proofs.Sorting.{in_order_map}
use Rattle.chew_spec_phrasing.specs.CombinedRows.{combined, combined_hits, found_rows, has_phrase, row_of_hit, shown_hit_cmp, shown_hit}
use Rattle.chew_spec_phrasing.proofs.Combined.{bytes_eq_from_same}
use Rattle.chew_spec_phrasing.proofs.InOrder.{list_any-in_order}
use Rattle.chew_spec_phrasing.proofs.Membership.{All-from_Contains}
use Rattle.chew_spec_phrasing.proofs.Sorted.{IsAlike, IsAlike-append, IsAlike-filter, IsAlike-from_IsPermutation, IsAlike-map, IsAlike-trans, in_order_from_sorted}
use Rattle.chew_spec_phrasing.proofs.SortedHits.{IsHitOf, same_hits}
use Rattle.chew_spec_phrasing.proofs.Intervals.{IsIn, IsIn-from_intervals, flat_map_alike, hits_at, map-map}

-- a row as a look-up tells it: under the key, and hidden or not
abbrev told : List ℕ → Row → Row
told key row = record { key = key; phrase = row.phrase; freq = row.freq; time = if is_hidden row then hidden_time else 0 }

-- a look-up finds the user's rows of each interval
found-hits_of : (run : List ℕ) (user : List Row) (at : Interval) → IsIn (length run) at → found_rows run (hits_of user run) at ≡ map (told (codes_at run at)) (in_order shown_cmp (rows_under user (codes_at run at)))
unfolding hits_of
found-hits_of run user at is_in =
    let mine = in_order shown_cmp (rows_under user (codes_at run at)) in
    ap (map (row_of_hit (codes_at run at))) (hits_at (λ i. in_order shown_cmp (rows_under user (codes_at run i))) (length run) at is_in)
    ∙ map-map (row_of_hit (codes_at run at)) (hit_of at) mine

under_told : (key : List ℕ) (rows : List Row) → rows_under (map (told key) rows) key ≡ map (told key) rows
under_told key [] = refl
under_told key (row ∷ rows) =
    ap (λ b. cond b (told key row ∷ rows_under (map (told key) rows) key) (rows_under (map (told key) rows) key)) (bytes_eq_from_same key key refl)
    ∙ ap (λ rest. told key row ∷ rest) (under_told key rows)

phrases_told : (key phrase : List ℕ) (rows : List Row) → has_phrase (map (told key) rows) phrase ≡ has_phrase rows phrase
phrases_told key phrase [] = refl
phrases_told key phrase (row ∷ rows) = ap (λ b. bytes_eq row.phrase phrase || b) (phrases_told key phrase rows)

-- of the key it is hidden where the row is
hidden_told : (key : List ℕ) (row : Row) → row.key ≡ key → is_hidden (told key row) ≡ is_hidden row
hidden_told key row same = by_test (is_hidden row) refl
  where
    no : (b : Bool) → (b && false) ≡ false
    no true = refl
    no false = refl

    by_test : (b : Bool) → is_hidden row ≡ b → (can_hide key && ((if b then hidden_time else 0) == hidden_time)) ≡ b
    by_test false e = no (can_hide key)
    by_test true e = ap (λ b. b && true) (ap can_hide (sym same) ∙ (and_parts (can_hide row.key) (row.time == hidden_time) e).0)

shown_told : (key : List ℕ) (rows : List Row) → All (λ row. row.key ≡ key) rows → shown_rows (map (told key) rows) ≡ map (told key) (shown_rows rows)
shown_told key [] h = refl
shown_told key (row ∷ rows) h =
    ap (λ b. cond (not b) (told key row ∷ shown_rows (map (told key) rows)) (shown_rows (map (told key) rows))) (hidden_told key row (All-head (λ r. r.key ≡ key) row rows h))
    ∙ (ap (λ rest. cond (not (is_hidden row)) (told key row ∷ rest) rest) (shown_told key rows (All-tail (λ r. r.key ≡ key) row rows h))
    ∙ by_test (is_hidden row))
  where
    by_test : (b : Bool) → cond (not b) (told key row ∷ map (told key) (shown_rows rows)) (map (told key) (shown_rows rows)) ≡ map (told key) (cond (not b) (row ∷ shown_rows rows) (shown_rows rows))
    by_test true = refl
    by_test false = refl

-- hits of an interval with the same elements are the same in order
alike_in_order : (at : Interval) (xs ys : List Hit) → All (IsHitOf at) xs → All (IsHitOf at) ys → IsAlike xs ys → in_order shown_hit_cmp xs ≡ in_order shown_hit_cmp ys
alike_in_order at xs ys h i alike =
    let moved = order_permutes shown_hit_cmp ys in
    sym (in_order_from_sorted shown_hit_cmp shown_hit_total (IsHitOf at) (same_hits at) xs (in_order shown_hit_cmp ys) h (All-permutation (IsHitOf at) ys (in_order shown_hit_cmp ys) moved i)
    (IsAlike-trans xs ys (in_order shown_hit_cmp ys) alike (IsAlike-from_IsPermutation ys (in_order shown_hit_cmp ys) moved)) (order_sorted shown_hit_cmp shown_hit_total ys))

-- rows of the key in place of the user's, with its phrases and frequencies, combine to the same hits
hits-combined : (at : Interval) (system user : List Row) (key : List ℕ) → map (shown_hit at) (combined system (map (told key) (in_order shown_cmp (rows_under user key))) key) ≡ map (shown_hit at) (combined system user key)
hits-combined at system user key =
    let mine = rows_under user key in
    let ordered = in_order shown_cmp mine in
    let seen = map (told key) ordered in
    let free = λ (row : Row). not (has_phrase mine row.phrase) in
    let free_of_seen = λ (row : Row). not (has_phrase (rows_under seen key) row.phrase) in
    let theirs = filter free (rows_under system key) in
    let moved = order_permutes shown_cmp mine in
    let keys : All (λ row. row.key ≡ key) ordered = All-permutation (λ row. row.key ≡ key) mine ordered moved (All-from_Contains (λ row. row.key ≡ key) mine (λ row i. (under_key user key row i).1)) in
    let same_phrases : (row : Row) → free_of_seen row ≡ free row = λ row. ap not
    (ap (λ rows. has_phrase rows row.phrase) (under_told key ordered)
    ∙ (phrases_told key row.phrase ordered ∙ list_any-in_order shown_cmp (λ r. bytes_eq r.phrase row.phrase) mine)) in
    let by_order : (rows : List Row) → map (shown_hit at) (in_order shown_cmp rows) ≡ in_order shown_hit_cmp (map (shown_hit at) rows) =
    λ rows. sym (in_order_map (shown_hit at) shown_cmp shown_hit_cmp (λ x y. refl) rows) in
    let all_of : (rows : List Row) → All (IsHitOf at) (map (shown_hit at) rows ++ map (shown_hit at) theirs) = λ rows.
    All-append (IsHitOf at) (map (shown_hit at) rows) (map (shown_hit at) theirs) (All-map (IsHitOf at) (shown_hit at) rows (λ k d l. (refl, refl, refl))) (All-map (IsHitOf at) (shown_hit at) theirs (λ k d l. (refl, refl, refl))) in
    ap (λ rows. map (shown_hit at) (in_order shown_cmp rows))
    (ap₂ (λ xs ys. xs ++ ys) (ap shown_rows (under_told key ordered) ∙ shown_told key ordered keys) (filter_agree free_of_seen free same_phrases (rows_under system key)))
    ∙ (by_order (map (told key) (shown_rows ordered) ++ theirs)
    ∙ (ap (in_order shown_hit_cmp) (map-append (shown_hit at) (map (told key) (shown_rows ordered)) theirs
    ∙ ap (λ xs. xs ++ map (shown_hit at) theirs) (map-map (shown_hit at) (told key) (shown_rows ordered)))
    ∙ (alike_in_order at (map (shown_hit at) (shown_rows ordered) ++ map (shown_hit at) theirs) (map (shown_hit at) (shown_rows mine) ++ map (shown_hit at) theirs)
    (all_of (shown_rows ordered)) (all_of (shown_rows mine))
    (IsAlike-append (map (shown_hit at) (shown_rows ordered)) (map (shown_hit at) (shown_rows mine)) (map (shown_hit at) theirs) (map (shown_hit at) theirs)
    (IsAlike-map (shown_hit at) (shown_rows ordered) (shown_rows mine) (IsAlike-filter (λ row. not (is_hidden row)) ordered mine (record { sums = λ f. sym ((IsAlike-from_IsPermutation mine ordered moved).sums f) })))
    (record { sums = λ f. refl }))
    ∙ (ap (in_order shown_hit_cmp) (sym (map-append (shown_hit at) (shown_rows mine) theirs))
    ∙ sym (by_order (shown_rows mine ++ theirs))))))

-- the combined rows of a run are those of each of its intervals
pub combined_hits-hits_of : (system user : List Row) (run : List ℕ) → combined_hits system run (hits_of user run) ≡ flat_map (λ at. map (shown_hit at) (combined system user (codes_at run at))) (intervals (length run))
unfolding combined_hits
combined_hits-hits_of system user run =
    flat_map_alike (λ at. map (shown_hit at) (combined system (found_rows run (hits_of user run) at) (codes_at run at)))
    (λ at. map (shown_hit at) (combined system user (codes_at run at))) (intervals (length run))
    (λ at i.
    ap (λ rows. map (shown_hit at) (combined system rows (codes_at run at))) (found-hits_of run user at (IsIn-from_intervals (length run) at i))
    ∙ hits-combined at system user (codes_at run at))
