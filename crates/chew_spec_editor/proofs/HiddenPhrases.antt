-- A hidden phrase is shown only where it was chosen.
use Rattle.std.specs.Prelude.{◌≡◌, ℕ, ◌+◌, ◌-◌, ◌<◌, ◌≤◌, ◌&&◌, Bool, true, false, List, [], ◌∷◌, Contains, drop, filter, find, flat_map, length, map, slice_get, ◌==◌, nat_le, nat_lt, option_and_then, Option, Some, None, if◌then◌else◌}
use Rattle.std.specs.Option.{option_map_or}
use Rattle.std.specs.List.{list_all}
use Rattle.std.proofs.Common.{refl, ap, ap₂, sym, subst, ◌∙◌, arith, eqb-true, ⊎_elim}
use Rattle.std.proofs.lemmas.Bool.{and_from, and_parts, both_ways, eq-eqb, le-leb, lt-ltb}
use Rattle.std.proofs.lemmas.List.Elements.{All-contains}
use Rattle.std.proofs.lemmas.Option.{none-some, same_Some}
use Rattle.chew_spec_syllable.specs.Row.{Row, is_row}
use Rattle.chew_spec_dictionary.specs.Call.{Hit, Reply}
use Rattle.chew_spec_dictionary.specs.HiddenPairs.{can_hide, hidden_time, is_hidden}
use Rattle.chew_spec_dictionary.specs.Look.{Interval, codes_at, intervals}
use Rattle.chew_spec_dictionary.specs.System.{rows_under}
use Rattle.chew_spec_phrasing.specs.CombinedRows.{combined, combined_hits, found_rows, has_phrase, is_hit_at, row_of_hit, shown_hit}
use Rattle.chew_spec_phrasing.specs.Segmentation.{lengths, pieces_from}
use Rattle.chew_spec_phrasing.specs.Usable.{Choice, HaveOwnLengths, Piece, is_exactly, keeps_choices, phrase_len, piece_at, piece_by_rows, piece_of_choice, piece_of_hit}
use Rattle.chew_spec_phrasing.proofs.Combined.{Contains-combined-cases, Contains-rows_under, has_phrase-from_Contains}
use Rattle.chew_spec_phrasing.proofs.CombinedSegment.{HaveOwnLengths-combined_hits}
use Rattle.chew_spec_phrasing.proofs.Intervals.{IsIn, IsIn-from_intervals}
use Rattle.chew_spec_phrasing.proofs.Membership.{Contains-cases, Contains-filter, Contains-from_filter, Contains-from_flat_map, Contains-from_map, Contains-map, Contains-nil}
use Rattle.chew_spec_phrasing.proofs.Pieces.{pieces_from-split}
use Rattle.chew_spec_phrasing.proofs.Usable.{Passes-from_find, first-from_piece_by_rows}
use Rattle.chew_spec_preedit.specs.Buffer.{Buffer, choice_back}
use Rattle.chew_spec_preedit.specs.PlacedRun.{PlacedRun, breaks_in, choices_in, is_in_run, run_end, runs_of}
use Rattle.chew_spec_preedit.specs.Window.{CandidateList, Window, candidate_lists, candidates_of, opened}
use Rattle.chew_spec_editor.specs.Answers.{AreAnswers}
use Rattle.chew_spec_editor.specs.Editor.{Editor}
use Rattle.chew_spec_editor.specs.Finish.{finish, hits_in, window_at}
use Rattle.chew_spec_editor.specs.HiddenPhrases.{IsHiddenAt, IsOfPhrase}
use Rattle.chew_spec_editor.specs.Invariant.{HasSingles, is_pending}
use Rattle.chew_spec_editor.specs.Pending.{Pending, runs_asked}
use Rattle.chew_spec_editor.specs.RunPieces.{AreBestIn, piece_back, pieces_in, usable_in}
use Rattle.chew_spec_editor.proofs.BestPieces.{middle}
use Rattle.chew_spec_editor.proofs.Phrasing.{only-lists}
use Rattle.chew_spec_editor.proofs.RunPieces.{all-runs-asked, begins_in, from-in_run, shown-best}
use Rattle.chew_spec_editor.proofs.ShownRows.{hits-as_long, length-interval, rows-as_long}

-- no combined row of an interval has a phrase that was found hidden there
not-combined : (system : List Row) (run : List ℕ) (hits : List Hit) (at : Interval) (row : Row) → IsIn (length run) at → IsHiddenAt hits at row.phrase
    → Contains (combined system (found_rows run hits at) (codes_at run at)) row → ⊥
not-combined system run hits at row is_in h i =
    let key = codes_at run at in
    let user = found_rows run hits at in
    let cases = Contains-combined-cases system user key row i in
    ⊎_elim
    (λ mine.
    let from = Contains-from_map (row_of_hit key) (filter (is_hit_at at) hits) row mine.0 in
    let kept = Contains-from_filter (is_hit_at at) hits from.0 from.1 in
    let places = and_parts (from.0.start == at.start) (from.0.len == at.len) kept.1 in
    let hidden = h.hidden from.0 kept.0 (record {
      start = eqb-true from.0.start at.start places.0;
      len = eqb-true from.0.len at.len places.1;
      phrase_is = ap (λ (r : Row). r.phrase) from.2;
    }) in
    let long = h.long in
    both_ways (is_hidden (row_of_hit key from.0)) (ap is_hidden from.2 ∙ mine.1)
    (and_from (can_hide key) ((if from.0.hidden then hidden_time else 0) == hidden_time)
    (le-leb 2 (length key) (let count = length-interval run at is_in in omega arith))
    (ap (λ b. (if b then hidden_time else 0) == hidden_time) hidden)))
    (λ theirs.
    let hit = h.found.0 in
    let is = h.found.2 in
    let own = Contains-map (row_of_hit key) (filter (is_hit_at at) hits) hit
    (Contains-filter (is_hit_at at) hits hit h.found.1 (and_from (hit.start == at.start) (hit.len == at.len) (eq-eqb hit.start at.start is.start) (eq-eqb hit.len at.len is.len))) in
    both_ways (has_phrase (rows_under user key) row.phrase) theirs.1
    (has_phrase-from_Contains (rows_under user key) (row_of_hit key hit) row.phrase (Contains-rows_under user key (row_of_hit key hit) own refl) is.phrase_is))
    cases.1

pub hidden-combined_hits : (system : List Row) (run : List ℕ) (hits : List Hit) (at : Interval) (phrase : List ℕ) (hit : Hit) → IsHiddenAt hits at phrase
    → Contains (combined_hits system run hits) hit → IsOfPhrase at phrase hit → ⊥
unfolding combined_hits
hidden-combined_hits system run hits at phrase hit h i is =
    let by_interval = λ (place : Interval). map (shown_hit place) (combined system (found_rows run hits place) (codes_at run place)) in
    let here = Contains-from_flat_map by_interval (intervals (length run)) hit i in
    let place = here.0 in
    let made = Contains-from_map (shown_hit place) (combined system (found_rows run hits place) (codes_at run place)) hit here.2 in
    let same : at ≡ place =
    ap₂ (λ (start len : ℕ). let p : Interval = record { start = start; len = len } in p)
    (sym (ap (λ (x : Hit). x.start) made.2 ∙ is.start)) (sym (ap (λ (x : Hit). x.len) made.2 ∙ is.len)) in
    not-combined system run hits place made.0 (IsIn-from_intervals (length run) place here.1)
    (subst (λ p. IsHiddenAt hits place p) (sym (ap (λ (x : Hit). x.phrase) made.2 ∙ is.phrase_is))
    (subst (λ p. IsHiddenAt hits p phrase) same h))
    made.1

-- each piece of a segmentation is that of a usable interval
usable-at : (usable : Interval → Option Piece) (start : ℕ) (lens : List ℕ) (pieces : List Piece) (piece : Piece) → pieces_from usable start lens ≡ Some pieces
    → Contains pieces piece → (at : Interval) × (usable at ≡ Some piece)
usable-at usable start [] pieces piece e i = absurd (Contains-nil piece (subst (λ ps. Contains ps piece) (sym (same_Some [] pieces e)) i))
usable-at usable start (len ∷ lens) pieces piece e i =
    let s = pieces_from-split usable start len lens pieces e in
    let at : Interval = record { start = start; len = len } in
    ⊎_elim
    (λ same. (at, subst (λ p. usable at ≡ Some p) same s.is_usable))
    (λ later. usable-at usable (start + len) lens s.others piece s.rest later)
    (Contains-cases s.piece s.others piece (subst (λ ps. Contains ps piece) s.joined i))

-- a piece of a phrase that is hidden at its cells is a choice's
chosen-where_hidden : (system : List Row) (run : List ℕ) (hits : List Hit) (breaks : List ℕ) (choices : List Choice) (at : Interval) (piece : Piece)
    → HaveOwnLengths (combined_hits system run hits) → piece_at (combined_hits system run hits) breaks choices at ≡ Some piece
    → IsHiddenAt hits (record { start = piece.start; len = phrase_len piece.phrase }) piece.phrase
    → (choice : Choice) × Contains choices choice × (piece_of_choice choice ≡ piece)
unfolding piece_at
chosen-where_hidden system run hits breaks choices at piece own e h = by_choice (find (is_exactly at) choices) refl e
  where
    rows : List Hit
    rows = combined_hits system run hits

    by_choice : (found : Option Choice) → find (is_exactly at) choices ≡ found
        → option_map_or (λ choice. Some (piece_of_choice choice)) found (piece_by_rows (combined_hits system run hits) breaks choices at) ≡ Some piece
        → (choice : Choice) × Contains choices choice × (piece_of_choice choice ≡ piece)
    by_choice (Some choice) is f = (choice, (Passes-from_find (is_exactly at) choices choice is).among, same_Some (piece_of_choice choice) piece f)
    by_choice None is f =
        let first = first-from_piece_by_rows rows breaks choices at piece f in
        let row = first.0 in
        let among = subst (λ hits. Contains hits row) (sym first.1.parts) (middle first.1.before row first.1.after) in
        let count = All-contains (λ r. phrase_len r.phrase ≡ r.len) rows row own among in
        absurd (hidden-combined_hits system run hits (record { start = piece.start; len = phrase_len piece.phrase }) piece.phrase row h among (record {
          start = ap (λ (p : Piece). p.start) (sym first.2);
          len = sym count ∙ ap (λ (p : Piece). phrase_len p.phrase) (sym first.2);
          phrase_is = ap (λ (p : Piece). p.phrase) (sym first.2);
        }))

-- a choice of a run, by its places in the buffer
chosen-in_buffer : (run : PlacedRun) (choices : List Choice) (choice : Choice) (piece : Piece) → Contains (choices_in run choices) choice → run.start ≤ piece.start
    → piece_of_choice choice ≡ piece_back run.start piece → Contains (map piece_of_choice choices) piece
chosen-in_buffer run choices choice piece i l e =
    let from = Contains-from_map (choice_back run.start) (filter (λ c. is_in_run run c.start) choices) choice i in
    let kept = Contains-from_filter (λ c. is_in_run run c.start) choices from.0 from.1 in
    let own = from.0 in
    let m = (from-in_run run own.start kept.1).0 in
    let there : piece_of_choice (choice_back run.start own) ≡ piece_back run.start piece = ap piece_of_choice from.2 ∙ e in
    let starts : own.start - run.start ≡ piece.start - run.start = ap (λ (p : Piece). p.start) there in
    let start : own.start ≡ piece.start = omega arith in
    let phrase : own.phrase ≡ piece.phrase = ap (λ (p : Piece). p.phrase) there in
    let freq : own.freq ≡ piece.freq = ap (λ (p : Piece). p.freq) there in
    let same : piece_of_choice own ≡ piece =
    ap (λ (n : ℕ). let p : Piece = record { start = n; phrase = own.phrase; freq = own.freq } in p) start
    ∙ (ap (λ (t : List ℕ). let p : Piece = record { start = piece.start; phrase = t; freq = own.freq } in p) phrase
    ∙ ap (λ (f : ℕ). let p : Piece = record { start = piece.start; phrase = piece.phrase; freq = f } in p) freq) in
    subst (Contains (map piece_of_choice choices)) same (Contains-map piece_of_choice choices own kept.0)

pub hidden-shown_where_chosen : (system : List Row) (pending : Pending) (replies : List Reply) (k : ℕ) (run : PlacedRun) (reply : Reply) (piece : Piece)
    → list_all is_row system ≡ true → HasSingles system pending.editor.buffer.cells → is_pending pending ≡ true → pending.opens ≡ None
    → AreAnswers pending replies → slice_get (runs_of pending.editor.buffer.cells) k ≡ Some run → slice_get (drop (length pending.changes) replies) k ≡ Some reply
    → Contains (finish system pending replies).editor.pieces piece → run.start ≤ piece.start → piece.start < run_end run
    → IsHiddenAt (hits_in reply) (record { start = piece.start - run.start; len = phrase_len piece.phrase }) piece.phrase
    → Contains (map piece_of_choice pending.editor.buffer.choices) piece
hidden-shown_where_chosen system pending replies k run reply piece e singles p none a f g i l m h =
    let buffer = pending.editor.buffer in
    let pieces = (finish system pending replies).editor.pieces in
    let best = shown-best system pending replies k run reply e singles p none a f g in
    let own = Contains-map (piece_back run.start) (filter (begins_in run) pieces) piece
    (Contains-filter (begins_in run) pieces piece i
    (and_from (nat_le run.start piece.start) (nat_lt piece.start (run_end run)) (le-leb run.start piece.start l) (lt-ltb piece.start (run_end run) m))) in
    let at = usable-at (usable_in system buffer run (hits_in reply)) 0 (lengths (pieces_in run pieces)) (pieces_in run pieces) (piece_back run.start piece)
    best.is_one.are_usable own in
    let answer = a.found k run reply (ap (λ rs. slice_get rs k) (all-runs-asked pending none) ∙ f) g in
    let long : HaveOwnLengths (hits_in reply) = subst (λ (r : Reply). HaveOwnLengths (hits_in r)) (sym answer.is) (hits-as_long answer.rows run.codes answer.are_rows) in
    let choice = chosen-where_hidden system run.codes (hits_in reply) (breaks_in run buffer.breaks) (choices_in run buffer.choices) at.0 (piece_back run.start piece)
    (HaveOwnLengths-combined_hits system run.codes (hits_in reply) (rows-as_long system e) long) at.1 h in
    chosen-in_buffer run buffer.choices choice.0 piece choice.1 l choice.2

-- the window that opens at a place has the lists of the run's combined rows
record IsOpened (system : List Row) (editor : Editor) (run : PlacedRun) (hits : List Hit) (window : Window) : Type 0 where
  lists : window.lists ≡ candidate_lists (combined_hits system run.codes hits) (breaks_in run editor.buffer.breaks) (length run.codes) (window.place - run.start)

opened-lists : (system : List Row) (editor : Editor) (run : PlacedRun) (runs : List PlacedRun) (reply : Reply) (rest : List Reply) (window : Window) (opens : Option ℕ)
    → option_and_then (window_at system editor (run ∷ runs) (reply ∷ rest)) opens ≡ Some window → IsOpened system editor run (hits_in reply) window
opened-lists system editor run runs reply rest window None e = absurd (none-some window e)
opened-lists system editor run runs reply rest window (Some place) e = by_test (length (lists_at place) == 0) e
  where
    lists_at : ℕ → List CandidateList
    lists_at p = candidate_lists (combined_hits system run.codes (hits_in reply)) (breaks_in run editor.buffer.breaks) (length run.codes) (p - run.start)

    by_test : (b : Bool) → (if b then None else Some (opened place (lists_at place) editor.settings.page)) ≡ Some window → IsOpened system editor run (hits_in reply) window
    by_test true f = absurd (none-some window f)
    by_test false f =
        subst (IsOpened system editor run (hits_in reply)) (same_Some (opened place (lists_at place) editor.settings.page) window f) (record { lists = refl })

pub hidden-no_candidate : (system : List Row) (pending : Pending) (replies rest : List Reply) (run : PlacedRun) (runs : List PlacedRun) (reply : Reply) (window : Window) (list : CandidateList) (hit : Hit)
    → runs_asked pending ≡ run ∷ runs → drop (length pending.changes) replies ≡ reply ∷ rest → (finish system pending replies).editor.window ≡ Some window
    → Contains window.lists list → Contains list.rows hit → IsHiddenAt (hits_in reply) (record { start = window.place - run.start; len = list.len }) hit.phrase → ⊥
unfolding finish
hidden-no_candidate system pending replies rest run runs reply window list hit asked looked e i j h =
    let rows = combined_hits system run.codes (hits_in reply) in
    let breaks = breaks_in run pending.editor.buffer.breaks in
    let place = window.place - run.start in
    let opened_here = opened-lists system pending.editor run runs reply rest window pending.opens
    (sym (ap₂ (λ rs ls. option_and_then (window_at system pending.editor rs ls) pending.opens) asked looked) ∙ e) in
    let only = only-lists rows breaks (length run.codes) place list (subst (λ ls. Contains ls list) opened_here.lists i) in
    let kept = Contains-from_filter (is_hit_at (record { start = place; len = list.len })) rows hit (subst (λ (l : CandidateList). Contains l.rows hit) only.0 j) in
    let places = and_parts (hit.start == place) (hit.len == list.len) kept.1 in
    hidden-combined_hits system run.codes (hits_in reply) (record { start = place; len = list.len }) hit.phrase hit h kept.0
    (record { start = eqb-true hit.start place places.0; len = eqb-true hit.len list.len places.1; phrase_is = refl })
