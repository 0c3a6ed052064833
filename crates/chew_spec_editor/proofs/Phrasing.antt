-- The shown pieces are the best of each run, the window shows all candidates, and the notes follow the replies.
use Rattle.std.specs.Prelude.{◌≡◌, ◌≢◌, ℕ, suc, ◌+◌, ◌-◌, ◌<◌, ◌≤◌, min, Bool, true, false, List, [], ◌∷◌, ◌++◌, Contains, drop, filter, map, take, length, position, reverse, ◌==◌, nat_le, nat_lt, option_and_then, Option, Some, None, if◌then◌else◌}
use Rattle.std.specs.Option.{option_map_or}
use Rattle.std.specs.List.{list_all, list_any, range_with_len}
use Rattle.std.proofs.Common.{refl, ap, sym, subst, ◌∙◌, arith, append_assoc, append-nil, eqb-true, ⊎_elim}
use Rattle.std.proofs.lemmas.Bool.{and_from, and_parts, cond-false, cond-true, eq-eqb, leb-true, lt-ltb, ltb-true}
use Rattle.std.proofs.lemmas.List.{nil_from_length, reverse-append}
use Rattle.std.proofs.lemmas.List.Elements.{Contains-append_left, Contains-append_right}
use Rattle.std.proofs.lemmas.List.Folds.{list_any-from_Any, list_any_none}
use Rattle.chew_spec_syllable.specs.Row.{Row, is_row}
use Rattle.chew_spec_dictionary.specs.Call.{Call, Hit, Reply, Rows, Learned, Full, NotThere, Hid, Frozen, Installed}
use Rattle.chew_spec_dictionary.specs.Call as reply
use Rattle.chew_spec_phrasing.specs.CombinedRows.{is_hit_at}
use Rattle.chew_spec_phrasing.specs.Usable.{Choice, Piece}
use Rattle.chew_spec_phrasing.proofs.CombinedSegment.{Contains-range}
use Rattle.chew_spec_phrasing.proofs.Membership.{All-from_Contains, Contains-cases, Contains-filter, Contains-from_filter, Contains-from_map, Contains-head, Contains-map}
use Rattle.chew_spec_preedit.specs.Buffer.{Buffer}
use Rattle.chew_spec_preedit.specs.Edit.{chosen}
use Rattle.chew_spec_preedit.specs.PlacedRun.{PlacedRun, run_end, runs_of}
use Rattle.chew_spec_preedit.specs.Window.{CandidateList, Window, candidate_lists, candidates_of, has_candidate, is_whole_at, lengths_at, next_page, page_before, picked, shorter}
use Rattle.chew_spec_preedit.proofs.IsBuffer.{IsBuffer-from}
use Rattle.chew_spec_text.specs.KeyStroke.{KeyStroke, Char, Down, PageDown, PageUp, Left, Right, Up, Esc}
use Rattle.chew_spec_text.specs.Line.{Note}
use Rattle.chew_spec_text.specs.Line as line
use Rattle.chew_spec_editor.specs.Answers.{AreAnswers}
use Rattle.chew_spec_editor.specs.Editor.{Editor, line_of}
use Rattle.chew_spec_editor.specs.Finish.{best_of_run, finish, hits_in, is_full_reply, is_not_there, note_after, phrased, renewed}
use Rattle.chew_spec_editor.specs.Invariant.{HasSingles, asks_rightly, is_pending, is_steady}
use Rattle.chew_spec_editor.specs.Keys.{press, press_plain, press_selection, press_window, with_window}
use Rattle.chew_spec_editor.specs.Pending.{Pending}
use Rattle.chew_spec_editor.specs.Phrasings.{best_of_runs}
use Rattle.chew_spec_editor.specs.Press.{bell, edit, quiet}
use Rattle.chew_spec_editor.proofs.Finished.{AreBest, AreUpTo, found-covers, looked-length, up-to-run}
use Rattle.chew_spec_editor.proofs.PlacedRuns.{are_placed, placed-runs_of, split-at}
use Rattle.chew_spec_editor.proofs.Renewed.{renewed-behind}
use Rattle.chew_spec_editor.proofs.RunsAt.{IsRunIn-split}
use Rattle.chew_spec_editor.proofs.Steady.{IsSteady-from}

phrased-best : (system : List Row) (buffer : Buffer) (place : ℕ) (pieces : List Piece) (runs : List PlacedRun) (replies : List Reply)
    → are_placed place runs ≡ true → AreUpTo place pieces → AreBest system buffer runs replies → length replies ≡ length runs
    → phrased system buffer pieces runs replies ≡ pieces ++ best_of_runs system buffer runs replies
unfolding phrased
phrased-best system buffer place pieces [] replies p h b e = sym (append-nil pieces)
phrased-best system buffer place pieces (run ∷ runs) [] p h b e = absurd (omega arith)
phrased-best system buffer place pieces (run ∷ runs) (reply ∷ replies) p h b e =
    let starts = and_parts (nat_le place run.start) _ p in
    let l = leb-true place run.start starts.0 in
    let some = and_parts (nat_lt 0 (length run.codes)) (are_placed (suc (run_end run)) runs) starts.1 in
    let best = best_of_run system buffer run (hits_in reply) in
    let same = renewed-behind place run best pieces l (ltb-true 0 (length run.codes) some.0) h.ends in
    let upto = subst (AreUpTo (suc (run_end run))) (sym same) (up-to-run place run best pieces l h (b.each 0 run reply refl refl)) in
    phrased-best system buffer (suc (run_end run)) (renewed run best pieces) runs replies some.1 upto (record { each = λ k r s f g. b.each (suc k) r s f g }) (omega arith)
    ∙ (ap (λ ps. ps ++ best_of_runs system buffer runs replies) same ∙ append_assoc pieces best (best_of_runs system buffer runs replies))

by-opens : (system : List Row) (editor : Editor) (changes : List Call) (commit : List ℕ) (note : Note) (opens : Option ℕ) (replies : List Reply)
    → list_all is_row system ≡ true → HasSingles system editor.buffer.cells → is_steady editor ≡ true → opens ≡ None
    → asks_rightly (record { editor = editor; changes = changes; commit = commit; note = note; opens = opens }) ≡ true
    → AreAnswers (record { editor = editor; changes = changes; commit = commit; note = note; opens = opens }) replies
    → (finish system (record { editor = editor; changes = changes; commit = commit; note = note; opens = opens }) replies).editor.pieces
    ≡ best_of_runs system editor.buffer (runs_of editor.buffer.cells) (drop (length changes) replies)
unfolding finish
by-opens system editor changes commit note (Some place) replies e singles s none r a = absurd cc
by-opens system editor changes commit note None replies e singles s none r a =
    let buffer = editor.buffer in
    let runs = runs_of buffer.cells in
    let steady = IsSteady-from editor s in
    let b = IsBuffer-from buffer steady.buffer in
    let empty = nil_from_length editor.pieces (eqb-true (length editor.pieces) 0 r) in
    let nothing = subst (AreUpTo 0) (sym empty) (record { ends = refl; are_pieces = refl }) in
    phrased-best system buffer 0 editor.pieces runs (drop (length changes) replies) (placed-runs_of buffer.cells) nothing
    (record {
      each = λ k run answer f g.
          found-covers system buffer (take k runs) run (drop (suc k) runs) answer e b
          (IsRunIn-split system buffer (take k runs) run (drop (suc k) runs) singles (split-at runs k run f)) (a.found k run answer f g);
    })
    (looked-length changes runs replies a.one_each)
    ∙ ap (λ ps. ps ++ best_of_runs system buffer runs (drop (length changes) replies)) empty

-- where all runs are asked, the pieces are the best of each
pub finish-best : (system : List Row) (pending : Pending) (replies : List Reply) → list_all is_row system ≡ true → HasSingles system pending.editor.buffer.cells
    → is_pending pending ≡ true → pending.opens ≡ None → AreAnswers pending replies
    → (finish system pending replies).editor.pieces ≡ best_of_runs system pending.editor.buffer (runs_of pending.editor.buffer.cells) (drop (length pending.changes) replies)
unfolding is_pending
finish-best system pending replies e singles p none a =
    let parts = and_parts (is_steady pending.editor) (asks_rightly pending) p in
    by-opens system pending.editor pending.changes pending.commit pending.note pending.opens replies e singles parts.0 none parts.1 a

-- an element of a list from back to front
Contains-reverse : (xs : List ℕ) (x : ℕ) → Contains xs x → Contains (reverse xs) x
Contains-reverse [] x i = i
Contains-reverse (y ∷ ys) x i =
    subst (λ (zs : List ℕ). Contains zs x) (sym (reverse-append (y ∷ []) ys))
    (⊎_elim
    (λ same. Contains-append_right (reverse ys) (y ∷ []) x (subst (Contains (y ∷ [])) same (Contains-head y [])))
    (λ later. Contains-append_left (reverse ys) (y ∷ []) x (Contains-reverse ys x later))
    (Contains-cases y ys x i))

-- each length has its list, where it fits, no break parts it, and it has a row
pub all-lists : (rows : List Hit) (breaks : List ℕ) (n place len : ℕ) → 1 ≤ len → len ≤ 11 → place + len ≤ n → is_whole_at breaks place len ≡ true
    → 0 < length (candidates_of rows place len).rows → Contains (candidate_lists rows breaks n place) (candidates_of rows place len)
unfolding candidate_lists
all-lists rows breaks n place len l m fits whole some =
    let list = candidates_of rows place len in
    Contains-filter has_candidate (map (candidates_of rows place) (filter (is_whole_at breaks place) (lengths_at n place))) (candidates_of rows place len)
    (Contains-map (candidates_of rows place) (filter (is_whole_at breaks place) (lengths_at n place)) len
    (Contains-filter (is_whole_at breaks place) (lengths_at n place) len
    (Contains-reverse (range_with_len 1 (min 11 (n - place))) len (Contains-range 1 (min 11 (n - place)) len l (omega arith))) whole))
    (lt-ltb 0 (length (candidates_of rows place len).rows) some)

-- and each list is that of a length that no break parts
pub only-lists : (rows : List Hit) (breaks : List ℕ) (n place : ℕ) (list : CandidateList) → Contains (candidate_lists rows breaks n place) list
    → (list ≡ candidates_of rows place list.len) × (is_whole_at breaks place list.len ≡ true)
unfolding candidate_lists
only-lists rows breaks n place list i =
    let kept = Contains-from_filter has_candidate (map (candidates_of rows place) (filter (is_whole_at breaks place) (lengths_at n place))) list i in
    let made = Contains-from_map (candidates_of rows place) (filter (is_whole_at breaks place) (lengths_at n place)) list kept.0 in
    let whole = (Contains-from_filter (is_whole_at breaks place) (lengths_at n place) made.0 made.1).1 in
    subst (λ (l : CandidateList). (l ≡ candidates_of rows place l.len) × (is_whole_at breaks place l.len ≡ true)) made.2 (refl, whole)

-- all rows of the length from the place on
pub all-rows : (rows : List Hit) (place len : ℕ) (hit : Hit) → Contains rows hit → hit.start ≡ place → hit.len ≡ len → Contains (candidates_of rows place len).rows hit
all-rows rows place len hit i e f =
    Contains-filter (is_hit_at (record { start = place; len = len })) rows hit i (and_from (hit.start == place) (hit.len == len) (eq-eqb hit.start place e) (eq-eqb hit.len len f))

-- a key while a window is open
pub press-window : (system : List Row) (editor : Editor) (window : Window) (key : KeyStroke) → editor.window ≡ Some window → press system editor key ≡ press_window system editor window key
unfolding press
press-window system editor window key e = ap (λ w. option_map_or (λ o. press_window system editor o key) w (press_plain system editor key)) e

pub window-down : (system : List Row) (editor : Editor) (window : Window) → editor.window ≡ Some window → press system editor Down ≡ with_window editor (shorter window)
unfolding press_window
window-down system editor window e = press-window system editor window Down e

pub window-next : (system : List Row) (editor : Editor) (window : Window) → editor.window ≡ Some window
    → (press system editor PageDown ≡ with_window editor (next_page window)) × (press system editor Right ≡ with_window editor (next_page window))
unfolding press_window
window-next system editor window e = (press-window system editor window PageDown e, press-window system editor window Right e)

pub window-before : (system : List Row) (editor : Editor) (window : Window) → editor.window ≡ Some window
    → (press system editor PageUp ≡ with_window editor (page_before window)) × (press system editor Left ≡ with_window editor (page_before window))
unfolding press_window
window-before system editor window e = (press-window system editor window PageUp e, press-window system editor window Left e)

pub window-close : (system : List Row) (editor : Editor) (window : Window) → editor.window ≡ Some window
    → (press system editor Up ≡ quiet (record editor { window = None })) × (press system editor Esc ≡ quiet (record editor { window = None }))
unfolding press_window
window-close system editor window e = (press-window system editor window Up e, press-window system editor window Esc e)

pub window-pick : (system : List Row) (editor : Editor) (window : Window) (byte k : ℕ) (choice : Choice) → editor.window ≡ Some window
    → position (λ key. key == byte) editor.settings.selection ≡ Some k → picked window k ≡ Some choice → press system editor (Char byte) ≡ edit system editor (chosen choice editor.buffer)
unfolding press_window press_selection
window-pick system editor window byte k choice e f g =
    press-window system editor window (Char byte) e
    ∙ ap (λ c. option_map_or (λ choice. edit system editor (chosen choice editor.buffer)) c (bell editor)) (ap (option_and_then (picked window)) f ∙ g)

pub window-none : (system : List Row) (editor : Editor) (window : Window) (byte k : ℕ) → editor.window ≡ Some window
    → position (λ key. key == byte) editor.settings.selection ≡ Some k → picked window k ≡ None → press system editor (Char byte) ≡ bell editor
unfolding press_window press_selection
window-none system editor window byte k e f g =
    press-window system editor window (Char byte) e
    ∙ ap (λ c. option_map_or (λ choice. edit system editor (chosen choice editor.buffer)) c (bell editor)) (ap (option_and_then (picked window)) f ∙ g)

-- the note of a key
any-of : (q : Reply → Bool) (replies : List Reply) (one : Reply) → Contains replies one → q one ≡ true → list_any q replies ≡ true
any-of q replies one i e = list_any-from_Any q replies (i.0, one, i.1, i.2, e)

none-of : (q : Reply → Bool) (replies : List Reply) → ((one : Reply) → Contains replies one → q one ≡ false) → list_any q replies ≡ false
none-of q replies h = list_any_none q replies (All-from_Contains (λ one. q one ≡ false) replies h)

not-full : (one : Reply) → (one ≡ Full → ⊥) → is_full_reply one ≡ false
not-full (Rows hits) h = refl
not-full (Learned freq time) h = refl
not-full Full h = absurd (h refl)
not-full reply.Forgot h = refl
not-full NotThere h = refl
not-full Hid h = refl
not-full (Frozen number) h = refl
not-full Installed h = refl

not-missing : (one : Reply) → (one ≡ NotThere → ⊥) → is_not_there one ≡ false
not-missing (Rows hits) h = refl
not-missing (Learned freq time) h = refl
not-missing Full h = refl
not-missing reply.Forgot h = refl
not-missing NotThere h = absurd (h refl)
not-missing Hid h = refl
not-missing (Frozen number) h = refl
not-missing Installed h = refl

pub note-full : (note : Note) (replies : List Reply) → Contains replies Full → note_after note replies ≡ line.Full
note-full note replies i = cond-true (list_any is_full_reply replies) line.Full (if list_any is_not_there replies then line.Missing else note) (any-of is_full_reply replies Full i refl)

pub note-missing : (note : Note) (replies : List Reply) → ((one : Reply) → Contains replies one → one ≢ Full) → Contains replies NotThere → note_after note replies ≡ line.Missing
note-missing note replies h i =
    cond-false (list_any is_full_reply replies) line.Full (if list_any is_not_there replies then line.Missing else note) (none-of is_full_reply replies (λ one j. not-full one (h one j)))
    ∙ cond-true (list_any is_not_there replies) line.Missing note (any-of is_not_there replies NotThere i refl)

pub note-said : (note : Note) (replies : List Reply) → ((one : Reply) → Contains replies one → one ≢ Full) → ((one : Reply) → Contains replies one → one ≢ NotThere) → note_after note replies ≡ note
note-said note replies h g =
    cond-false (list_any is_full_reply replies) line.Full (if list_any is_not_there replies then line.Missing else note) (none-of is_full_reply replies (λ one j. not-full one (h one j)))
    ∙ cond-false (list_any is_not_there replies) line.Missing note (none-of is_not_there replies (λ one j. not-missing one (g one j)))

pub note-finish : (system : List Row) (pending : Pending) (replies : List Reply) → (finish system pending replies).line.note ≡ note_after pending.note (take (length pending.changes) replies)
unfolding finish line_of
note-finish system pending replies = refl
