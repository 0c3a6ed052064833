-- The candidate lists of a place, one length after another.
use Rattle.std.specs.Prelude.{◌≡◌, ◌≢◌, ℕ, zero, suc, ◌+◌, ◌-◌, ◌<◌, ◌≤◌, Bool, true, false, cond, List, [], ◌∷◌, ◌++◌, filter, map, length, min, reverse, ◌==◌}
use Rattle.std.specs.List.{list_all, range_with_len}
use Rattle.std.proofs.Common.{refl, ap, ap₂, sym, ◌∙◌, arith, append-nil, append_assoc, eqb-true}
use Rattle.std.proofs.lemmas.Bool.{and_left, cond-false, cond-true, eqb-false, le-ltb, lt-ltb, ne_eqb}
use Rattle.std.proofs.lemmas.List.{map-append, reverse-append}
use Rattle.std.proofs.lemmas.List.Elements.{filter-append}
use Rattle.chew_spec_syllable.specs.Row.{Row}
use Rattle.chew_spec_dictionary.specs.Call.{Hit}
use Rattle.chew_spec_dictionary.specs.Look.{Interval, codes_at}
use Rattle.chew_spec_phrasing.specs.CombinedRows.{combined, combined_hits, found_rows, is_hit_at, shown_hit}
use Rattle.chew_spec_phrasing.proofs.Intervals.{filter-flat_map, flat_map-range_one, flat_map_none}
use Rattle.chew_spec_preedit.specs.Window.{CandidateList, candidate_lists, candidates_of, has_candidate, is_whole_at, lengths_at}
use Rattle.chew_spec_preedit.proofs.Kept.{list_all-filter, list_all-true}
use Rattle.chew_spec_editor.proofs.SoundPlaces.{range-joined}
use Rattle.chew_phrasing.specs.Combine.{combined_at, combined_from, interval}
use Rattle.chew_phrasing.proofs.Combining.{all_combined}
use Rattle.chew_editor.specs.Lists.{list_at, lists_from, lists_of}

-- the lists of lengths and more lengths
lists-join : (rows : List Hit) (breaks : List ℕ) (place : ℕ) (lens more : List ℕ) → lists_of rows breaks place (lens ++ more) ≡ lists_of rows breaks place lens ++ lists_of rows breaks place more
lists-join rows breaks place lens more =
    let whole = is_whole_at breaks place in
    ap (λ ls. filter has_candidate (map (candidates_of rows place) ls)) (filter-append whole lens more)
    ∙ (ap (filter has_candidate) (map-append (candidates_of rows place) (filter whole lens) (filter whole more))
    ∙ filter-append has_candidate (map (candidates_of rows place) (filter whole lens)) (map (candidates_of rows place) (filter whole more)))

-- the lengths from one down
lengths-down : (n : ℕ) → reverse (range_with_len 1 (suc n)) ≡ suc n ∷ reverse (range_with_len 1 n)
lengths-down n =
    ap reverse (ap (range_with_len 1) (let e : suc n ≡ n + 1 = omega arith in e) ∙ sym (range-joined 1 n 1 (suc n) (omega arith)))
    ∙ reverse-append (range_with_len 1 n) (suc n ∷ [])

lists-step : (rows : List Hit) (breaks : List ℕ) (place n : ℕ) → lists_from rows breaks place (suc n) ≡ list_at rows breaks place (suc n) ++ lists_from rows breaks place n
unfolding lists_from list_at
lists-step rows breaks place n =
    ap (lists_of rows breaks place) (lengths-down n) ∙ lists-join rows breaks place (suc n ∷ []) (reverse (range_with_len 1 n))

-- a length less to go
pub lists-more : (rows : List Hit) (breaks : List ℕ) (place len : ℕ) (had now whole : List CandidateList) → 0 < len → now ≡ had ++ list_at rows breaks place len
    → had ++ lists_from rows breaks place len ≡ whole → now ++ lists_from rows breaks place (len - 1) ≡ whole
lists-more rows breaks place zero had now whole l e h = absurd (omega arith)
lists-more rows breaks place (suc n) had now whole l e h =
    ap (λ k. now ++ lists_from rows breaks place k) (let f : suc n - 1 ≡ n = omega arith in f)
    ∙ (ap (λ ls. ls ++ lists_from rows breaks place n) e
    ∙ (append_assoc had (list_at rows breaks place (suc n)) (lists_from rows breaks place n)
    ∙ (ap (λ ls. had ++ ls) (sym (lists-step rows breaks place n)) ∙ h)))

-- and none
pub lists-all : (rows : List Hit) (breaks : List ℕ) (place len : ℕ) (had whole : List CandidateList) → len ≤ 0 → had ++ lists_from rows breaks place len ≡ whole → had ≡ whole
unfolding lists_from
lists-all rows breaks place zero had whole l h = sym (append-nil had) ∙ h
lists-all rows breaks place (suc n) had whole l h = absurd (omega arith)

-- no row of an interval that begins elsewhere is one of the place
others-start : (place len : ℕ) (at : Interval) (rows : List Row) → at.start ≢ place → filter (is_hit_at (record { start = place; len = len })) (map (shown_hit at) rows) ≡ []
others-start place len at [] other = refl
others-start place len at (row ∷ rows) other =
    ap (λ b. cond b (shown_hit at row ∷ filter (is_hit_at (record { start = place; len = len })) (map (shown_hit at) rows)) (filter (is_hit_at (record { start = place; len = len })) (map (shown_hit at) rows)))
    (and_left (at.start == place) (at.len == len) (ne_eqb at.start place other))
    ∙ others-start place len at rows other

none-from : (system : List Row) (run : List ℕ) (hits : List Hit) (place len start : ℕ) → start ≢ place → filter (is_hit_at (record { start = place; len = len })) (combined_from system run hits start) ≡ []
unfolding combined_at
none-from system run hits place len start other =
    filter-flat_map (is_hit_at (record { start = place; len = len })) (λ k. combined_at system run hits (interval start k)) (range_with_len 1 (min 11 (length run - start)))
    ∙ flat_map_none (λ k. filter (is_hit_at (record { start = place; len = len })) (combined_at system run hits (interval start k))) (range_with_len 1 (min 11 (length run - start)))
    (λ k. others-start place len (interval start k) (combined system (found_rows run hits (interval start k)) (codes_at run (interval start k))) other)

-- the rows of a place are those of the whole run
rows-at : (system : List Row) (run : List ℕ) (hits : List Hit) (place len : ℕ) → place < length run
    → filter (is_hit_at (record { start = place; len = len })) (combined_from system run hits place) ≡ filter (is_hit_at (record { start = place; len = len })) (combined_hits system run hits)
rows-at system run hits place len l =
    let keep = is_hit_at (record { start = place; len = len }) in
    sym (ap (filter keep) (sym (all_combined system run hits))
    ∙ (filter-flat_map keep (combined_from system run hits) (range_with_len 0 (length run))
    ∙ flat_map-range_one (λ start. filter keep (combined_from system run hits start)) 0 (length run) place (λ start other. none-from system run hits place len start other) (omega arith) (omega arith)))

map-alike : {X Y : Type 0} (f g : X → Y) (xs : List X) → ((x : X) → f x ≡ g x) → map f xs ≡ map g xs
map-alike f g [] h = refl
map-alike f g (x ∷ xs) h = ap₂ (λ y ys. y ∷ ys) (h x) (map-alike f g xs h)

-- so are the lists
pub lists-combined : (system : List Row) (run : List ℕ) (hits : List Hit) (breaks : List ℕ) (place : ℕ) → place < length run
    → lists_from (combined_from system run hits place) breaks place (min 11 (length run - place)) ≡ candidate_lists (combined_hits system run hits) breaks (length run) place
unfolding lists_from candidate_lists
lists-combined system run hits breaks place l =
    ap (filter has_candidate)
    (map-alike (candidates_of (combined_from system run hits place) place) (candidates_of (combined_hits system run hits) place)
    (filter (is_whole_at breaks place) (reverse (range_with_len 1 (min 11 (length run - place)))))
    (λ len. ap (λ (rows : List Hit). let list : CandidateList = record { len = len; rows = rows } in list) (rows-at system run hits place len l)))

-- each has a candidate
pub lists-filled : (rows : List Hit) (breaks : List ℕ) (n place : ℕ) → list_all has_candidate (candidate_lists rows breaks n place) ≡ true
unfolding candidate_lists
lists-filled rows breaks n place =
    let lists = map (candidates_of rows place) (filter (is_whole_at breaks place) (lengths_at n place)) in
    list_all-filter (λ list. true) has_candidate has_candidate (λ list _ h. h) lists (list_all-true lists)

-- a length that a break parts has no list
pub list-broken : (rows : List Hit) (breaks : List ℕ) (place len : ℕ) (had : List CandidateList) → is_whole_at breaks place len ≡ false → had ≡ had ++ list_at rows breaks place len
unfolding list_at
list-broken rows breaks place len had e =
    sym (ap (λ b. had ++ filter has_candidate (map (candidates_of rows place) (cond b (len ∷ []) []))) e ∙ append-nil had)

-- nor has one without a row
pub list-none : (rows : List Hit) (breaks : List ℕ) (place len : ℕ) (found : List Hit) (had : List CandidateList) → found ≡ filter (is_hit_at (record { start = place; len = len })) rows
    → (length found == 0) ≡ true → had ≡ had ++ list_at rows breaks place len
unfolding list_at
list-none rows breaks place len found had is none =
    sym (ap (λ ls. had ++ ls) (by_whole (is_whole_at breaks place len)) ∙ append-nil had)
  where
    no_candidate : has_candidate (candidates_of rows place len) ≡ false
    no_candidate = le-ltb 0 (length (candidates_of rows place len).rows) (let n = eqb-true (length found) 0 none in let e = ap length is in omega arith)

    by_whole : (b : Bool) → filter has_candidate (map (candidates_of rows place) (cond b (len ∷ []) [])) ≡ []
    by_whole true = cond-false (has_candidate (candidates_of rows place len)) (candidates_of rows place len ∷ []) [] no_candidate
    by_whole false = refl

-- any other has one
pub list-one : (rows : List Hit) (breaks : List ℕ) (place len : ℕ) (found hits : List Hit) (had now : List CandidateList) → is_whole_at breaks place len ≡ true
    → found ≡ filter (is_hit_at (record { start = place; len = len })) rows → hits ≡ found → (length found == 0) ≡ false
    → now ≡ had ++ (record { len = len; rows = hits } ∷ []) → now ≡ had ++ list_at rows breaks place len
unfolding list_at
list-one rows breaks place len found hits had now whole is same some e =
    let list = candidates_of rows place len in
    e
    ∙ (ap (λ hs. let l : CandidateList = record { len = len; rows = hs } in had ++ l ∷ []) (same ∙ is)
    ∙ sym (ap (λ b. had ++ filter has_candidate (map (candidates_of rows place) (cond b (len ∷ []) []))) whole
    ∙ ap (λ ls. had ++ ls) (cond-true (has_candidate (candidates_of rows place len)) (candidates_of rows place len ∷ []) []
    (lt-ltb 0 (length list.rows) (let n = eqb-false (length found) 0 some in let f = ap length is in omega arith)))))
