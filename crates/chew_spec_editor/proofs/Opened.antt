-- The window that opens over a run is a window over the buffer.
use Rattle.std.specs.Prelude.{◌≡◌, ℕ, zero, suc, ◌+◌, ◌-◌, ◌<◌, ◌≤◌, min, Bool, true, false, ◌&&◌, List, [], ◌∷◌, Contains, filter, map, length, reverse, ◌==◌, nat_le, nat_lt, Some, None}
use Rattle.std.specs.Option.{option_map_or}
use Rattle.std.specs.List.{list_all, range_with_len}
use Rattle.std.proofs.Common.{refl, ap, sym, subst, ◌∙◌, arith, eqb-true, ⊎_elim}
use Rattle.std.proofs.lemmas.Bool.{and_cases, and_from, and_parts, both_ways, cond_both, eqb-false, leb-true, le-leb, lt-ltb, ltb-false, ltb-true}
use Rattle.std.proofs.lemmas.List.{reverse-append}
use Rattle.std.proofs.lemmas.List.Folds.{list_all-map}
use Rattle.chew_spec_dictionary.specs.Call.{Hit}
use Rattle.chew_spec_phrasing.specs.CombinedRows.{is_hit_at}
use Rattle.chew_spec_phrasing.specs.Usable.{phrase_len}
use Rattle.chew_spec_phrasing.proofs.Membership.{Contains-from_filter, Contains-head, Contains-tail}
use Rattle.chew_spec_preedit.specs.Buffer.{Buffer, is_choice_of}
use Rattle.chew_spec_preedit.specs.Cell.{has_sound}
use Rattle.chew_spec_preedit.specs.InTurn.{is_in_turn}
use Rattle.chew_spec_preedit.specs.PlacedRun.{PlacedRun, breaks_in, run_end}
use Rattle.chew_spec_preedit.specs.Window.{CandidateList, candidate_lists, candidates_of, choice_of, has_candidate, is_falling, is_whole_at, is_window, lengths_at, opened}
use Rattle.chew_spec_preedit.proofs.IsBuffer.{is_choice_of-from}
use Rattle.chew_spec_preedit.proofs.Kept.{is_in_turn-filter, is_in_turn-join, list_all-filter, list_all-join, list_all-true}
use Rattle.chew_spec_preedit.proofs.Windows.{is_window-opened}
use Rattle.chew_spec_preedit.proofs.Spliced.{is_outside, is_outside-left, is_outside-right, outside-from}
use Rattle.chew_spec_editor.specs.Finish.{window_of_lists}
use Rattle.chew_spec_editor.specs.Invariant.{has_choices, is_window_over}
use Rattle.chew_spec_editor.proofs.ShownRows.{IsShown}
use Rattle.chew_spec_editor.proofs.SoundPlaces.{range-all}

-- lists from back to front
list_all-reverse : {X : Type 0} (q : X → Bool) (xs : List X) → list_all q xs ≡ true → list_all q (reverse xs) ≡ true
list_all-reverse q [] e = refl
list_all-reverse q (x ∷ xs) e =
    let parts = and_parts (q x) (list_all q xs) e in
    ap (list_all q) (reverse-append (x ∷ []) xs)
    ∙ list_all-join q (reverse xs) (x ∷ []) (list_all-reverse q xs parts.1) (and_from (q x) true parts.0 refl)

is_in_turn-reverse : {X : Type 0} (test : X → X → Bool) (xs : List X) → is_in_turn (λ x y. test y x) xs ≡ true → is_in_turn test (reverse xs) ≡ true
is_in_turn-reverse test [] e = refl
is_in_turn-reverse test (x ∷ xs) e =
    let parts = and_parts (list_all (λ y. test y x) xs) (is_in_turn (λ x y. test y x) xs) e in
    ap (is_in_turn test) (reverse-append (x ∷ []) xs)
    ∙ is_in_turn-join test (reverse xs) (x ∷ []) (is_in_turn-reverse test xs parts.1) refl
    (list_all-reverse (λ y. list_all (test y) (x ∷ [])) xs (each test x xs parts.0))
  where
    each : {X : Type 0} (test : X → X → Bool) (x : X) (xs : List X) → list_all (λ y. test y x) xs ≡ true → list_all (λ y. list_all (test y) (x ∷ [])) xs ≡ true
    each test x [] e = refl
    each test x (y ∷ ys) e =
        let parts = and_parts (test y x) (list_all (λ z. test z x) ys) e in
        and_from (test y x && true) _ (and_from (test y x) true parts.0 refl) (each test x ys parts.1)

is_in_turn-map : {X Y : Type 0} (test : Y → Y → Bool) (f : X → Y) (xs : List X) → is_in_turn (λ x y. test (f x) (f y)) xs ≡ true → is_in_turn test (map f xs) ≡ true
is_in_turn-map test f [] e = refl
is_in_turn-map test f (x ∷ xs) e =
    let parts = and_parts (list_all (λ y. test (f x) (f y)) xs) (is_in_turn (λ x y. test (f x) (f y)) xs) e in
    and_from (list_all (test (f x)) (map f xs)) (is_in_turn test (map f xs)) (list_all-map (test (f x)) f xs ∙ parts.0) (is_in_turn-map test f xs parts.1)

range-rising : (a n : ℕ) → is_in_turn nat_lt (range_with_len a n) ≡ true
range-rising a zero = refl
range-rising a (suc n) =
    and_from (list_all (nat_lt a) (range_with_len (a + 1) n)) (is_in_turn nat_lt (range_with_len (a + 1) n))
    (range-all (nat_lt a) (a + 1) n (λ k l _. lt-ltb a k (omega arith))) (range-rising (a + 1) n)

pub falling-candidate_lists : (rows : List Hit) (breaks : List ℕ) (n place : ℕ) → is_falling (candidate_lists rows breaks n place) ≡ true
unfolding candidate_lists
falling-candidate_lists rows breaks n place =
    let shorter = λ (list later : CandidateList). nat_lt later.len list.len in
    let below = λ (len other : ℕ). nat_lt other len in
    is_in_turn-filter shorter has_candidate (map (candidates_of rows place) (filter (is_whole_at breaks place) (lengths_at n place)))
    (is_in_turn-map shorter (candidates_of rows place) (filter (is_whole_at breaks place) (lengths_at n place))
    (is_in_turn-filter below (is_whole_at breaks place) (lengths_at n place)
    (is_in_turn-reverse below (range_with_len 1 (min 11 (n - place))) (range-rising 1 (min 11 (n - place))))))

candidates-candidate_lists : (rows : List Hit) (breaks : List ℕ) (n place : ℕ) → list_all has_candidate (candidate_lists rows breaks n place) ≡ true
unfolding candidate_lists
candidates-candidate_lists rows breaks n place =
    let lists = map (candidates_of rows place) (filter (is_whole_at breaks place) (lengths_at n place)) in
    list_all-filter (λ list. true) has_candidate has_candidate (λ list _ h. h) lists (list_all-true lists)

-- what each element passes, all pass
pub test-all : {X : Type 0} (q : X → Bool) (xs : List X) → ((x : X) → Contains xs x → q x ≡ true) → list_all q xs ≡ true
test-all q [] h = refl
test-all q (x ∷ xs) h = and_from (q x) (list_all q xs) (h x (Contains-head x xs)) (test-all q xs (λ y i. h y (Contains-tail x xs y i)))

-- a place is outside where it is in the run, and so are the others of the run
record Parted (inside : Bool) (test : ℕ → Bool) (at : ℕ) (others : List ℕ) : Type 0 where
  pub own : inside ≡ true → test at ≡ true
  pub rest : list_all test others ≡ true

-- an interval that is whole in the run is whole in the buffer
whole-in-buffer : (run : PlacedRun) (place len : ℕ) (breaks : List ℕ) → run.start ≤ place → place + len ≤ run_end run
    → is_whole_at (breaks_in run breaks) (place - run.start) len ≡ true → list_all (is_outside place (place + len)) breaks ≡ true
whole-in-buffer run place len [] l m e = refl
whole-in-buffer run place len (at ∷ breaks) l m e =
    let at_run = place - run.start in
    let inside = λ (p : ℕ). nat_lt run.start p && nat_lt p (run_end run) in
    let test = is_outside at_run (at_run + len) in
    by_inside (inside at) refl (cond_both (inside at) (at ∷ filter inside breaks) (filter inside breaks)
    (λ kept. list_all test (map (λ p. p - run.start) kept) ≡ true → Parted (inside at) test (at - run.start) (map (λ p. p - run.start) (filter inside breaks)))
    (λ f all. let parts = and_parts (test (at - run.start)) (list_all test (map (λ p. p - run.start) (filter inside breaks))) all in record { own = λ _. parts.0; rest = parts.1 })
    (λ f all. record { own = λ g. absurd (both_ways (inside at) f g); rest = all }) e)
    (whole-in-buffer run place len breaks l m)
  where
    by_inside : (b : Bool) → (nat_lt run.start at && nat_lt at (run_end run)) ≡ b
        → Parted (nat_lt run.start at && nat_lt at (run_end run)) (is_outside (place - run.start) ((place - run.start) + len)) (at - run.start)
        (map (λ p. p - run.start) (filter (λ p. nat_lt run.start p && nat_lt p (run_end run)) breaks))
        → (is_whole_at (breaks_in run breaks) (place - run.start) len ≡ true → list_all (is_outside place (place + len)) breaks ≡ true)
        → list_all (is_outside place (place + len)) (at ∷ breaks) ≡ true
    by_inside true f h more =
        let range = and_parts (nat_lt run.start at) (nat_lt at (run_end run)) f in
        let above = ltb-true run.start at range.0 in
        and_from (is_outside place (place + len) at) _
        (⊎_elim (λ left. let o = left in is_outside-left place (place + len) at (omega arith)) (λ right. let o = right in is_outside-right place (place + len) at (omega arith))
        (outside-from (place - run.start) ((place - run.start) + len) (at - run.start) (h.own f)))
        (more h.rest)
    by_inside false f h more =
        and_from (is_outside place (place + len) at) _
        (⊎_elim
        (λ left. is_outside-left place (place + len) at (let o = ltb-false run.start at left in omega arith))
        (λ right. is_outside-right place (place + len) at (let o = ltb-false at (run_end run) right in omega arith))
        (and_cases (nat_lt run.start at) (nat_lt at (run_end run)) f))
        (more h.rest)

-- the rows of an interval may be chosen there
candidates-choices : (buffer : Buffer) (run : PlacedRun) (rows : List Hit) (place len : ℕ)
    → ((hit : Hit) → Contains rows hit → IsShown (length run.codes) hit)
    → run.start ≤ place → place + len ≤ run_end run → run_end run ≤ length buffer.cells
    → ((k : ℕ) → run.start ≤ k → k < run_end run → has_sound buffer.cells k ≡ true)
    → is_whole_at (breaks_in run buffer.breaks) (place - run.start) len ≡ true
    → list_all (λ hit. is_choice_of buffer.cells buffer.breaks (choice_of place hit)) (candidates_of rows (place - run.start) len).rows ≡ true
candidates-choices buffer run rows place len shown l m within sounds whole =
    test-all (λ hit. is_choice_of buffer.cells buffer.breaks (choice_of place hit)) (filter (is_hit_at (record { start = place - run.start; len = len })) rows) (λ hit i.
    let kept = Contains-from_filter (is_hit_at (record { start = place - run.start; len = len })) rows hit i in
    let is = shown hit kept.0 in
    let same = eqb-true hit.len len ((and_parts (hit.start == place - run.start) (hit.len == len) kept.1).1) in
    let as_long : phrase_len hit.phrase ≡ len = is.as_long ∙ same in
    is_choice_of-from buffer.cells buffer.breaks (choice_of place hit) (record {
      phrase = is.phrase;
      freq = is.freq;
      within = omega arith;
      sounds = λ k n o. sounds k (omega arith) (omega arith);
      unbroken = subst (λ (end : ℕ). list_all (is_outside place (place + end)) buffer.breaks ≡ true) (sym as_long) (whole-in-buffer run place len buffer.breaks l m whole);
    }))

choices-candidate_lists : (buffer : Buffer) (run : PlacedRun) (rows : List Hit) (place : ℕ)
    → ((hit : Hit) → Contains rows hit → IsShown (length run.codes) hit)
    → run.start ≤ place → place < run_end run → run_end run ≤ length buffer.cells
    → ((k : ℕ) → run.start ≤ k → k < run_end run → has_sound buffer.cells k ≡ true)
    → list_all (λ list. list_all (λ hit. is_choice_of buffer.cells buffer.breaks (choice_of place hit)) list.rows)
    (candidate_lists rows (breaks_in run buffer.breaks) (length run.codes) (place - run.start)) ≡ true
unfolding candidate_lists
choices-candidate_lists buffer run rows place shown l m within sounds =
    let n = length run.codes in
    let at = place - run.start in
    let whole = is_whole_at (breaks_in run buffer.breaks) at in
    let fits = λ (len : ℕ). nat_le (at + len) n in
    let q = λ (list : CandidateList). list_all (λ hit. is_choice_of buffer.cells buffer.breaks (choice_of place hit)) list.rows in
    list_all-filter q has_candidate q (λ list c _. c) (map (candidates_of rows at) (filter whole (lengths_at n at)))
    (list_all-map q (candidates_of rows at) (filter whole (lengths_at n at))
    ∙ list_all-filter fits whole (λ len. q (candidates_of rows at len))
    (λ len f w. candidates-choices buffer run rows place len shown l (let g = leb-true (at + len) n f in omega arith) within sounds w)
    (lengths_at n at)
    (list_all-reverse fits (range_with_len 1 (min 11 (n - at))) (range-all fits 1 (min 11 (n - at)) (λ k o p. le-leb (at + k) n (omega arith)))))

-- the window that opens
pub over-window_of_lists : (buffer : Buffer) (run : PlacedRun) (rows : List Hit) (place per_page : ℕ)
    → ((hit : Hit) → Contains rows hit → IsShown (length run.codes) hit)
    → run.start ≤ place → place < run_end run → run_end run ≤ length buffer.cells
    → ((k : ℕ) → run.start ≤ k → k < run_end run → has_sound buffer.cells k ≡ true)
    → 1 ≤ per_page → per_page ≤ 10
    → option_map_or (is_window_over buffer)
    (window_of_lists per_page place (candidate_lists rows (breaks_in run buffer.breaks) (length run.codes) (place - run.start))) true ≡ true
over-window_of_lists buffer run rows place per_page shown l m within sounds some few =
    let lists = candidate_lists rows (breaks_in run buffer.breaks) (length run.codes) (place - run.start) in
    let window = opened place lists per_page in
    cond_both (length lists == 0) None (Some (opened place lists per_page)) (λ w. option_map_or (is_window_over buffer) w true ≡ true)
    (λ _. refl)
    (λ e.
    let apart = eqb-false (length lists) 0 e in
    and_from (is_window window) (has_choices buffer window)
    (is_window-opened place lists per_page (falling-candidate_lists rows (breaks_in run buffer.breaks) (length run.codes) (place - run.start))
    (candidates-candidate_lists rows (breaks_in run buffer.breaks) (length run.codes) (place - run.start)) (omega arith) some few)
    (choices-candidate_lists buffer run rows place shown l m within sounds))
