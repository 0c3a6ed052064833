-- The hits of an interval that were found, and the system's free ones, sorted, are the combined rows of the interval.
use Rattle.std.proofs.Common.{◌≡◌, ℕ, Bool, true, false, not, cond, ◌&&◌, ◌||◌, List, [], ◌∷◌, ◌++◌, length, map, filter, All, IsPermutation, IsSorted, Ordering, Less, Equal, Greater, is_eq, nat_cmp, bytes_eq, eqb-true, sym, refl, ap, ap₂, ◌∙◌, arith}
use Rattle.std.specs.Prelude.{◌==◌, nat_le, if◌then◌else◌}
use Rattle.std.specs.Cmp.Lexicographic.{slice_cmp}
use Rattle.std.specs.List.{list_any}
use Rattle.std.specs.Ordering.{ordering_then}
use Rattle.std.proofs.lemmas.Bool.{and_parts}
use Rattle.std.proofs.lemmas.Bool.Decides.{nat_tests}
use Rattle.std.proofs.lemmas.List.{map-append}
use Rattle.std.proofs.lemmas.List.Elements.{All-append, All-filter, All-head, All-map, All-tail, All-weaker, filter_agree, filter_passes}
use Rattle.std.proofs.lemmas.List.Sorted.{All-permutation}
use Rattle.std.proofs.lemmas.Map.Text.{is_eq-slice_cmp}
use Rattle.chew_spec_syllable.specs.Row.{Row}
use Rattle.chew_spec_dictionary.specs.Call.{Hit}
use Rattle.chew_spec_dictionary.specs.HiddenPairs.{can_hide, hidden_time, is_hidden, shown_rows}
use Rattle.chew_spec_dictionary.specs.Look.{Interval, codes_at, shown_cmp}
use Rattle.chew_spec_dictionary.specs.Order.{in_order}
use Rattle.chew_spec_dictionary.specs.System.{phrase_cmp, rows_of, rows_under}
use Rattle.chew_spec_dictionary.proofs.Order.{order_permutes}
use Rattle.chew_spec_dictionary.proofs.Rows.{shown_hit_total, then_equal}
use Rattle.chew_spec_dictionary.proofs.Sorting.{in_order_map}
use Rattle.chew_spec_phrasing.specs.CombinedRows.{as_shown, combined, found_rows, has_phrase, is_free_of, is_hit_at, is_shown, row_of_hit, shown_hit, shown_hit_cmp, unsorted_hits}
use Rattle.chew_spec_phrasing.proofs.Combined.{bytes_eq_from_same, same_from_bytes_eq}
use Rattle.chew_spec_phrasing.proofs.Sorted.{IsAlike, IsAlike-append, IsAlike-filter, IsAlike-from_IsPermutation, IsAlike-map, IsAlike-trans, in_order_from_sorted}

same_freq : (a b : ℕ) (o : Ordering) → ordering_then (nat_cmp b a) o ≡ Equal → a ≡ b
same_freq a b o e = by_value (nat_cmp b a) refl e
  where
    by_value : (p : Ordering) → nat_cmp b a ≡ p → ordering_then p o ≡ Equal → a ≡ b
    by_value Less f g = absurd cc
    by_value Equal f g = grind (arith, nat_tests)
    by_value Greater f g = absurd cc

-- the hit is of the interval, and not hidden
abbrev pub IsHitOf : Interval → Hit → Type 0
IsHitOf at hit = (hit.start ≡ at.start) × (hit.len ≡ at.len) × (hit.hidden ≡ false)

pub IsHitOf-from_test : (at : Interval) (hit : Hit) → is_hit_at at hit ≡ true → IsHitOf at (as_shown hit)
IsHitOf-from_test at hit e =
    let both = and_parts (hit.start == at.start) (hit.len == at.len) e in
    (eqb-true hit.start at.start both.0, eqb-true hit.len at.len both.1, refl)

abbrev hit_at : (start len : ℕ) → List ℕ → ℕ → Bool → Hit
hit_at start len phrase freq hidden = record { start = start; len = len; phrase = phrase; freq = freq; hidden = hidden }

-- of the hits of one interval those that tie are one
pub same_hits : (at : Interval) (hit other : Hit) → IsHitOf at hit → IsHitOf at other → shown_hit_cmp hit other ≡ Equal → hit ≡ other
same_hits at hit other h i e =
    let freqs : hit.freq ≡ other.freq = same_freq hit.freq other.freq (slice_cmp nat_cmp hit.phrase other.phrase) e in
    let phrases : hit.phrase ≡ other.phrase = same_from_bytes_eq hit.phrase other.phrase
    (sym (is_eq-slice_cmp hit.phrase other.phrase) ∙ ap is_eq (then_equal (nat_cmp other.freq hit.freq) (slice_cmp nat_cmp hit.phrase other.phrase) e)) in
    ap₂ (λ s l. hit_at s l hit.phrase hit.freq hit.hidden) (h.0 ∙ sym i.0) (h.1 ∙ sym i.1)
    ∙ (ap₂ (λ p f. hit_at other.start other.len p f hit.hidden) phrases freqs
    ∙ ap (λ b. hit_at other.start other.len other.phrase other.freq b) (h.2 ∙ sym i.2))

no_and : (b : Bool) → (b && false) ≡ false
no_and true = refl
no_and false = refl

-- a hit's row is hidden where the hit isn't shown
hidden_row : (at : Interval) (key : List ℕ) (hit : Hit) → length key ≡ at.len → hit.len ≡ at.len → not (is_hidden (row_of_hit key hit)) ≡ is_shown hit
hidden_row at key hit whole len = by_test hit.hidden
  where
    by_test : (b : Bool) → not (can_hide key && ((if b then hidden_time else 0) == hidden_time)) ≡ not (b && nat_le 2 hit.len)
    by_test false = ap not (no_and (can_hide key))
    by_test true = ap not (and_true (can_hide key) ∙ ap (nat_le 2) (whole ∙ sym len))
      where
        and_true : (b : Bool) → (b && true) ≡ b
        and_true true = refl
        and_true false = refl

-- the hits of an interval that a look-up found, as rows, are these hits
seen_hits : (at : Interval) (key : List ℕ) (hits : List Hit) → length key ≡ at.len → All (λ hit. is_hit_at at hit ≡ true) hits → map (shown_hit at) (shown_rows (map (row_of_hit key) hits)) ≡ map as_shown (filter is_shown hits)
seen_hits at key [] whole h = refl
seen_hits at key (hit ∷ hits) whole h =
    let is = IsHitOf-from_test at hit (All-head (λ x. is_hit_at at x ≡ true) hit hits h) in
    let same : shown_hit at (row_of_hit key hit) ≡ as_shown hit =
    ap₂ (λ (start len : ℕ). let g : Hit = record { start = start; len = len; phrase = hit.phrase; freq = hit.freq; hidden = false } in g) (sym is.0) (sym is.1) in
    ap (λ b. map (shown_hit at) (cond b (row_of_hit key hit ∷ shown_rows (map (row_of_hit key) hits)) (shown_rows (map (row_of_hit key) hits)))) (hidden_row at key hit whole is.1)
    ∙ by_test (is_shown hit) same (seen_hits at key hits whole (All-tail (λ x. is_hit_at at x ≡ true) hit hits h))
  where
    by_test : (b : Bool) → shown_hit at (row_of_hit key hit) ≡ as_shown hit → map (shown_hit at) (shown_rows (map (row_of_hit key) hits)) ≡ map as_shown (filter is_shown hits)
        → map (shown_hit at) (cond b (row_of_hit key hit ∷ shown_rows (map (row_of_hit key) hits)) (shown_rows (map (row_of_hit key) hits))) ≡ map as_shown (cond b (hit ∷ filter is_shown hits) (filter is_shown hits))
    by_test true e f = ap₂ (λ g gs. g ∷ gs) e f
    by_test false e f = f

seen_rows : (key : List ℕ) (hits : List Hit) → rows_under (map (row_of_hit key) hits) key ≡ map (row_of_hit key) hits
seen_rows key [] = refl
seen_rows key (hit ∷ hits) =
    ap (λ b. cond b (row_of_hit key hit ∷ rows_under (map (row_of_hit key) hits) key) (rows_under (map (row_of_hit key) hits) key)) (bytes_eq_from_same key key refl)
    ∙ ap (λ rest. row_of_hit key hit ∷ rest) (seen_rows key hits)

seen_phrases : (key phrase : List ℕ) (hits : List Hit) → has_phrase (map (row_of_hit key) hits) phrase ≡ list_any (λ hit. bytes_eq hit.phrase phrase) hits
seen_phrases key phrase [] = refl
seen_phrases key phrase (hit ∷ hits) = ap (λ b. bytes_eq hit.phrase phrase || b) (seen_phrases key phrase hits)

-- sorted as they are shown, these are the combined rows of the interval
pub hits_from_sorted : (system : List Row) (run : List ℕ) (user : List Hit) (at : Interval) (hits : List Hit) → length (codes_at run at) ≡ at.len → IsPermutation (unsorted_hits system run user at) hits → IsSorted shown_hit_cmp hits → hits ≡ map (shown_hit at) (combined system (found_rows run user at) (codes_at run at))
hits_from_sorted system run user at hits whole moved sorted =
    let key = codes_at run at in
    let mine = filter (is_hit_at at) user in
    let seen = map as_shown (filter is_shown mine) in
    let free_of_seen = λ (row : Row). not (has_phrase (rows_under (found_rows run user at) key) row.phrase) in
    let same_phrases : (row : Row) → free_of_seen row ≡ is_free_of mine row = λ row.
    ap not (ap (λ rows. has_phrase rows row.phrase) (seen_rows key mine) ∙ seen_phrases key row.phrase mine) in
    let theirs = filter (is_free_of mine) (rows_under system key) in
    let passes = filter_passes (is_hit_at at) user in
    let all_mine : All (IsHitOf at) seen =
    All-map (IsHitOf at) as_shown (filter is_shown mine)
    (All-weaker (λ hit. is_hit_at at hit ≡ true) (λ hit. IsHitOf at (as_shown hit)) (λ hit e. IsHitOf-from_test at hit e) (filter is_shown mine) (All-filter is_shown (λ hit. is_hit_at at hit ≡ true) mine passes)) in
    let all_of : (rows : List Row) → All (IsHitOf at) (seen ++ map (shown_hit at) rows) = λ rows.
    All-append (IsHitOf at) seen (map (shown_hit at) rows) all_mine (All-map (IsHitOf at) (shown_hit at) rows (λ k d l. (refl, refl, refl))) in
    let alike : IsAlike (seen ++ map (shown_hit at) theirs) hits =
    IsAlike-trans (seen ++ map (shown_hit at) theirs) (unsorted_hits system run user at) hits
    (IsAlike-append seen seen (map (shown_hit at) theirs) (map (shown_hit at) (filter (is_free_of mine) (rows_of system key)))
    (record { sums = λ f. refl })
    (IsAlike-map (shown_hit at) theirs (filter (is_free_of mine) (rows_of system key))
    (IsAlike-filter (is_free_of mine) (rows_under system key) (rows_of system key)
    (IsAlike-from_IsPermutation (rows_under system key) (rows_of system key) (order_permutes phrase_cmp (rows_under system key))))))
    (IsAlike-from_IsPermutation (unsorted_hits system run user at) hits moved) in
    let rows_seen : shown_rows (rows_under (found_rows run user at) key) ≡ shown_rows (map (row_of_hit key) mine) = ap shown_rows (seen_rows key mine) in
    in_order_from_sorted shown_hit_cmp shown_hit_total (IsHitOf at) (same_hits at) (seen ++ map (shown_hit at) theirs) hits
    (all_of theirs) (All-permutation (IsHitOf at) (unsorted_hits system run user at) hits moved (all_of (filter (is_free_of mine) (rows_of system key)))) alike sorted
    ∙ sym (
    ap₂ (λ shown rows. map (shown_hit at) (in_order shown_cmp (shown ++ rows))) rows_seen (filter_agree free_of_seen (is_free_of mine) same_phrases (rows_under system key))
    ∙ (sym (in_order_map (shown_hit at) shown_cmp shown_hit_cmp (λ x y. refl) (shown_rows (map (row_of_hit key) mine) ++ theirs))
    ∙ ap (in_order shown_hit_cmp) (map-append (shown_hit at) (shown_rows (map (row_of_hit key) mine)) theirs
    ∙ ap (λ xs. xs ++ map (shown_hit at) theirs) (seen_hits at key mine whole passes))))
