-- The combined rows of a run have a segmentation, where the system has a row for each of its syllables.
use Rattle.std.proofs.Common.{not, ◌&&◌, ◌≡◌, ℕ, zero, suc, ◌+◌, ◌-◌, ◌<◌, ◌≤◌, min, Bool, true, false, ◌||◌, List, [], ◌∷◌, length, get_or, take, drop, map, filter, flat_map, All, AllPairs, Contains, bytes_eq, eqb-true, ◌⊎◌, ⊎_elim, sym, refl, ap, ◌∙◌, subst, arith, length-drop, length-take}
use Rattle.std.specs.Prelude.{◌==◌}
use Rattle.std.specs.List.{list_any, range_with_len}
use Rattle.std.proofs.lemmas.Bool.{and_from, and_parts, eq-eqb}
use Rattle.std.proofs.lemmas.List.{drop_more}
use Rattle.std.proofs.lemmas.List.Elements.{All-contains}
use Rattle.std.proofs.lemmas.List.Folds.{Any-from_list_any, list_any-from_Any}
use Rattle.chew_spec_syllable.specs.Row.{Row}
use Rattle.chew_spec_dictionary.specs.Call.{Hit}
use Rattle.chew_spec_dictionary.specs.Look.{Interval, codes_at, intervals}
use Rattle.chew_spec_dictionary.specs.System.{has_single, is_under, rows_under}
use Rattle.chew_spec_phrasing.specs.CanSegment.{CanSegment, cell_at, interval_of}
use Rattle.chew_spec_phrasing.specs.CombinedRows.{combined, combined_hits, found_rows, has_phrase, is_hit_at, row_of_hit, shown_hit}
use Rattle.chew_spec_phrasing.specs.Usable.{Choice, HaveOwnLengths, choice_end, meets, phrase_len}
use Rattle.chew_spec_phrasing.proofs.Combined.{Contains-combined-cases, all_shown, has_phrase-combined, has_phrase-from_Contains}
use Rattle.chew_spec_phrasing.proofs.Intervals.{IsIn, IsIn-from_intervals}
use Rattle.chew_spec_phrasing.proofs.Membership.{All-from_Contains, Contains-filter, Contains-flat_map, Contains-from_filter, Contains-from_flat_map, Contains-from_map, Contains-head, Contains-map, Contains-tail}

-- a number of a range
pub Contains-range : (a n k : ℕ) → a ≤ k → k < a + n → Contains (range_with_len a n) k
Contains-range a zero k l m = absurd (omega arith)
Contains-range a (suc n) k l m =
    ⊎_elim
    (λ same. subst (Contains (a ∷ range_with_len (a + 1) n)) same (Contains-head a (range_with_len (a + 1) n)))
    (λ more. Contains-tail a (range_with_len (a + 1) n) k (Contains-range (a + 1) n k (let other = more in omega arith) (omega arith)))
    (first_or_more a k l)
  where
    first_or_more : (x y : ℕ) → x ≤ y → (x ≡ y) ⊎ (x < y)
    first_or_more x y h = grind arith

-- each interval that lies in a run is one of its intervals
pub Contains-intervals : (n : ℕ) (at : Interval) → IsIn n at → Contains (intervals n) at
Contains-intervals n at h =
    let starts = h.starts in
    let from_one = h.from_one in
    let fits = h.fits in
    Contains-flat_map (λ start. map (λ len. record { start = start; len = len }) (range_with_len 1 (min 11 (n - start)))) (range_with_len 0 n) at.start at
    (Contains-range 0 n at.start (omega arith) (omega arith))
    (Contains-map (λ (len : ℕ). let i : Interval = record { start = at.start; len = len } in i) (range_with_len 1 (min 11 (n - at.start))) at.len
    (Contains-range 1 (min 11 (n - at.start)) at.len from_one (omega arith)))

-- an interval in a run has as many syllables as its length
length-codes_at : (run : List ℕ) (at : Interval) → IsIn (length run) at → length (codes_at run at) ≡ at.len
length-codes_at run at h =
    let fits = h.fits in
    let starts = h.starts in
    omega (arith, length-take at.len (drop at.start run), length-drop at.start run)

row_is_as_long : (system : List Row) (run : List ℕ) (hits : List Hit) (at : Interval) (row : Row) → All (λ r. phrase_len r.phrase ≡ length r.key) system → HaveOwnLengths hits → IsIn (length run) at → Contains (combined system (found_rows run hits at) (codes_at run at)) row → phrase_len row.phrase ≡ at.len
row_is_as_long system run hits at row own found is_in i =
    let cases = Contains-combined-cases system (found_rows run hits at) (codes_at run at) row i in
    ⊎_elim
    (λ user.
    let from = Contains-from_map (row_of_hit (codes_at run at)) (filter (is_hit_at at) hits) row user.0 in
    let kept = Contains-from_filter (is_hit_at at) hits from.0 from.1 in
    let places = and_parts (from.0.start == at.start) (from.0.len == at.len) kept.1 in
    ap (λ (r : Row). phrase_len r.phrase) (sym from.2) ∙ (All-contains (λ h. phrase_len h.phrase ≡ h.len) hits from.0 found kept.0 ∙ eqb-true from.0.len at.len places.1))
    (λ theirs. All-contains (λ r. phrase_len r.phrase ≡ length r.key) system row own theirs.0 ∙ (ap length cases.0 ∙ length-codes_at run at is_in))
    cases.1

-- combined rows are as long as their phrases
pub HaveOwnLengths-combined_hits : (system : List Row) (run : List ℕ) (hits : List Hit) → All (λ row. phrase_len row.phrase ≡ length row.key) system → HaveOwnLengths hits → HaveOwnLengths (combined_hits system run hits)
unfolding combined_hits
HaveOwnLengths-combined_hits system run hits own found =
    All-from_Contains (λ h. phrase_len h.phrase ≡ h.len)
    (flat_map (λ at. map (shown_hit at) (combined system (found_rows run hits at) (codes_at run at))) (intervals (length run)))
    (λ h i.
    let by_interval = Contains-from_flat_map (λ at. map (shown_hit at) (combined system (found_rows run hits at) (codes_at run at))) (intervals (length run)) h i in
    let at = by_interval.0 in
    let by_row = Contains-from_map (shown_hit at) (combined system (found_rows run hits at) (codes_at run at)) h by_interval.2 in
    subst (λ x. phrase_len x.phrase ≡ x.len) by_row.2
    (row_is_as_long system run hits at by_row.0 own found (IsIn-from_intervals (length run) at by_interval.1) by_row.1))

-- the syllable of a cell
code_at : (run : List ℕ) (cell : ℕ) → cell < length run → codes_at run (cell_at cell) ≡ get_or run cell 0 ∷ []
code_at run cell l = ap (take 1) (drop_more run cell 0 l)

either_true : (a b : Bool) → b ≡ true → (a || (not a && b)) ≡ true
either_true true b e = refl
either_true false b e = e

single_key : (run : List ℕ) (cell : ℕ) → cell < length run → length (codes_at run (cell_at cell)) < 2
single_key run cell l = omega (arith, ap (λ k. length k) (code_at run cell l))

-- where the system has a row for a syllable by itself, so have the combined rows of its cell
pub single-combined_hits : (system : List Row) (run : List ℕ) (hits : List Hit) (cell : ℕ) → cell < length run → has_single system (get_or run cell 0) ≡ true → list_any (is_hit_at (cell_at cell)) (combined_hits system run hits) ≡ true
unfolding combined_hits
single-combined_hits system run hits cell l e =
    let at = cell_at cell in
    let key = codes_at run at in
    let user = found_rows run hits at in
    let under : list_any (is_under key) system ≡ true = ap (λ k. list_any (is_under k) system) (code_at run cell l) ∙ e in
    let any = Any-from_list_any (is_under key) system under in
    let theirs = Contains-filter (is_under key) system any.1 (any.0, any.2, any.3) any.4 in
    let had : has_phrase (combined system user key) any.1.phrase ≡ true =
    has_phrase-combined system user key any.1.phrase
    ∙ (ap (λ rows. has_phrase rows any.1.phrase || (not (has_phrase (rows_under user key) any.1.phrase) && has_phrase (rows_under system key) any.1.phrase)) (all_shown user key (single_key run cell l))
    ∙ either_true (has_phrase (rows_under user key) any.1.phrase) (has_phrase (rows_under system key) any.1.phrase)
    (has_phrase-from_Contains (rows_under system key) any.1 any.1.phrase theirs refl)) in
    let shown = Any-from_list_any (λ (row : Row). bytes_eq row.phrase any.1.phrase) (combined system user key) had in
    let hit = shown_hit at shown.1 in
    let there = Contains-flat_map (λ i. map (shown_hit i) (combined system (found_rows run hits i) (codes_at run i))) (intervals (length run)) at hit
    (Contains-intervals (length run) at (record { starts = l; from_one = omega arith; fits = omega arith }))
    (Contains-map (shown_hit at) (combined system user key) shown.1 (shown.0, shown.2, shown.3)) in
    list_any-from_Any (is_hit_at at) (flat_map (λ i. map (shown_hit i) (combined system (found_rows run hits i) (codes_at run i))) (intervals (length run)))
    (there.0, hit, there.1, there.2, and_from (cell == cell) (1 == 1) (eq-eqb cell cell refl) refl)

-- such a run can be segmented, with any choices that lie in it and apart
pub CanSegment-combined_hits : (system : List Row) (run : List ℕ) (hits : List Hit) (choices : List Choice) → All (λ row. phrase_len row.phrase ≡ length row.key) system → HaveOwnLengths hits → All (λ code. has_single system code ≡ true) run → All (λ choice. 0 < phrase_len choice.phrase) choices → All (λ choice. choice_end choice ≤ length run) choices → AllPairs (λ choice other. meets (interval_of choice) other ≡ false) choices → CanSegment (combined_hits system run hits) choices (length run)
CanSegment-combined_hits system run hits choices own found singles cells within apart = record {
  rows_have_lengths = HaveOwnLengths-combined_hits system run hits own found;
  choices_have_cells = cells;
  choices_within = within;
  choices_apart = apart;
  has_singles = λ cell l outside. single-combined_hits system run hits cell l (singles cell 0 l);
}
