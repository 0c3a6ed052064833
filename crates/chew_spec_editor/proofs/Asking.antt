-- The calls of a key may be made.
use Rattle.std.specs.Prelude.{◌≡◌, ℕ, zero, suc, ◌+◌, ◌-◌, ◌≤◌, Bool, true, false, not, List, [], ◌∷◌, ◌++◌, drop, take, encode_utf8_all, find, flat_map, get_or, map, length, slice_get, ◌==◌, ◌&&◌, nat_le, nat_lt, option_to_list, Option, Some, None, if◌then◌else◌}
use Rattle.std.specs.Option.{option_map_or}
use Rattle.std.specs.List.{list_all, range_with_len}
use Rattle.std.proofs.Common.{refl, ap, sym, subst, ◌∙◌, arith, eqb-true}
use Rattle.std.proofs.lemmas.Bool.{and_from, and_parts, cond_both, cond-true, false≢true, leb-true, le-leb}
use Rattle.std.proofs.lemmas.List.Folds.{list_all-append, list_all-map}
use Rattle.chew_spec_syllable.specs.Key.{is_run}
use Rattle.chew_spec_syllable.specs.Phrase.{is_phrase}
use Rattle.chew_spec_syllable.specs.Row.{Row, is_pair, is_row}
use Rattle.chew_spec_syllable.specs.Syllable.{is_code}
use Rattle.chew_spec_dictionary.specs.Call.{Call, Look, is_proper}
use Rattle.chew_spec_dictionary.specs.History.{is_keepers, is_user_call}
use Rattle.chew_spec_dictionary.specs.Call as call
use Rattle.chew_spec_dictionary.specs.HiddenPairs.{can_hide}
use Rattle.chew_spec_dictionary.specs.System.{has_single}
use Rattle.chew_spec_layout.specs.Layout.{cleared, feed, holds}
use Rattle.chew_spec_layout.specs.Step.{Step, Kept, Whole, Refused, Erased, NotMine}
use Rattle.chew_spec_layout.specs.Table.{backspace}
use Rattle.chew_spec_phrasing.specs.Usable.{Choice, Piece, phrase_len}
use Rattle.chew_spec_phrasing.proofs.Usable.{Passes-from_find}
use Rattle.chew_spec_preedit.specs.Buffer.{Buffer, is_buffer}
use Rattle.chew_spec_preedit.specs.Cell.{Cell, Sound, Symbol, has_sound, is_cell, is_sound}
use Rattle.chew_spec_preedit.specs.Edit.{backspaced, break_toggled, can_break, chosen, deleted, emptied, inserted, is_full}
use Rattle.chew_spec_preedit.specs.PlacedRun.{PlacedRun, is_in_run, run_end, runs_from, runs_of, with_sound}
use Rattle.chew_spec_preedit.specs.Window.{Window}
use Rattle.chew_spec_preedit.proofs.IsBuffer.{IsBuffer-from}
use Rattle.chew_spec_preedit.proofs.Kept.{list_all-join, list_all-weaker}
use Rattle.chew_spec_text.specs.KeyStroke.{KeyStroke, Char, Enter, Backspace, Delete, Left, Right, Home, End, Up, Down, PageUp, PageDown, Tab, Esc, Add, Forget, Hide, is_key_stroke}
use Rattle.chew_spec_text.specs.Line.{Line, Note, Quiet, Added}
use Rattle.chew_spec_text.specs.Line as line
use Rattle.chew_spec_editor.specs.Editor.{Editor, characters_of, shown_text}
use Rattle.chew_spec_editor.specs.Finish.{finish}
use Rattle.chew_spec_editor.specs.Invariant.{asks_rightly, covers, is_editor, is_pending, is_piece, is_steady, piece_places}
use Rattle.chew_spec_editor.specs.Keys.{press, press_free, press_plain, press_selection, press_window}
use Rattle.chew_spec_editor.specs.Learning.{key_at, learns}
use Rattle.chew_spec_editor.specs.Pending.{Pending, calls_of, runs_asked, with_buffer}
use Rattle.chew_spec_editor.specs.PhraseKeys.{are_sounds_ahead, press_about, press_add, press_forget, press_hide}
use Rattle.chew_spec_editor.specs.Press.{Pressed, Done, Ask, after_step, asking, bell, edit, go_to, insert, leading_cells, leading_learns, learn_shown, opening, press_backspace, press_char, press_delete, press_down, press_enter, press_esc, press_left, press_right, press_tab, quiet, releasing, text_at, window_place}
use Rattle.chew_spec_editor.proofs.Characters.{HaveCharacters-at, cells-show}
use Rattle.chew_spec_editor.proofs.Keeping.{is_pending-ask, relaid}
use Rattle.chew_spec_editor.proofs.Leading.{piece-some}
use Rattle.chew_spec_editor.proofs.PlacedRuns.{runs-pass, sound_passes}
use Rattle.chew_spec_editor.proofs.ShownRows.{passes}
use Rattle.chew_spec_editor.proofs.SoundPlaces.{places-sound, same-from_covers}
use Rattle.chew_spec_editor.proofs.Steady.{IsEditor, IsEditor-from, IsSteady-from}
use Rattle.chew_spec_editor.proofs.Stretches.{proper-learns}
use Rattle.chew_spec_editor.proofs.Texts.{AreSounds, AreSounds-places, is_pair-at, is_proper-learn, length-key_at, phrase_len-most}
use Rattle.chew_spec_layout.proofs.AnyLayout.{feed-in_range}

-- what is shown of syllables is a phrase of them
shown-pair : (editor : Editor) (place len : ℕ) → IsEditor editor → AreSounds editor.buffer.cells place len → 1 ≤ len → len ≤ 11
    → is_pair (key_at editor.buffer.cells place len) (text_at editor place len) ≡ true
unfolding text_at
shown-pair editor place len h s l m =
    let cells = editor.buffer.cells in
    let cs = take len (drop place (characters_of editor)) in
    let is = HaveCharacters-at cells editor.pieces place len (cells-show cells editor.pieces h.covered h.steady.pieces) s in
    let count = is.count in
    subst (λ (n : ℕ). is_pair (key_at cells place n) (encode_utf8_all cs) ≡ true) is.count
    (is_pair-at cells place cs (IsBuffer-from editor.buffer h.steady.buffer).cells (subst (AreSounds cells place) (sym is.count) s) is.characters (omega arith) (omega arith))

proper-shown : (system : List Row) (editor : Editor) (place len : ℕ) → list_all is_row system ≡ true → IsEditor editor → AreSounds editor.buffer.cells place len → 1 ≤ len → len ≤ 11
    → is_user_call (learn_shown system editor place len) ≡ true
unfolding learn_shown
proper-shown system editor place len e h s l m =
    is_proper-learn system (key_at editor.buffer.cells place len) (text_at editor place len) e (shown-pair editor place len h s l m)

-- the first piece stands over syllables
pub record LeadSounds (cells : List Cell) (len : ℕ) : Type 0 where
  pub sounds : AreSounds cells 0 len
  pub some : 1 ≤ len
  pub most : len ≤ 11

range-head : (a n : ℕ) (more : List ℕ) → 1 ≤ n → get_or (range_with_len a n ++ more) 0 1 ≡ a
range-head a zero more l = absurd (omega arith)
range-head a (suc n) more l = refl

pub lead-sounds : (cells : List Cell) (pieces : List Piece) → covers cells pieces ≡ true → list_all is_piece pieces ≡ true → has_sound cells 0 ≡ true
    → LeadSounds cells (option_map_or (λ piece. phrase_len piece.phrase) (slice_get pieces 0) 1)
lead-sounds [] pieces c e h = absurd (false≢true h)
lead-sounds (Symbol byte ∷ cells) pieces c e h = absurd (false≢true h)
lead-sounds (Sound code ∷ cells) [] c e h = absurd (let same = same-from_covers (Sound code ∷ cells) [] c in cc)
lead-sounds (Sound code ∷ cells) (piece ∷ pieces) c e h =
    let all = Sound code ∷ cells in
    let is = (and_parts (is_piece piece) (list_all is_piece pieces) e).0 in
    let some = piece-some piece is in
    let same = same-from_covers all (piece ∷ pieces) c in
    let from : piece.start ≡ 0 = sym (range-head piece.start (phrase_len piece.phrase) (flat_map piece_places pieces) some) ∙ ap (λ places. get_or places 0 1) same in
    let sound = ap (list_all (has_sound all)) same ∙ places-sound all 0 all (λ k. ap (has_sound all) (let f : k ≡ 0 + k = omega arith in f)) in
    let own = (and_parts (list_all (has_sound all) (piece_places piece)) _ (sym (list_all-append (has_sound all) (piece_places piece) (flat_map piece_places pieces)) ∙ sound)).0 in
    record {
      sounds = AreSounds-places all 0 (phrase_len piece.phrase) some (subst (λ (n : ℕ). list_all (has_sound all) (range_with_len n (phrase_len piece.phrase)) ≡ true) from own);
      some = some;
      most = phrase_len-most piece.phrase ((and_parts (is_phrase piece.phrase) _ is).0);
    }

proper-leading : (system : List Row) (editor : Editor) → list_all is_row system ≡ true → IsEditor editor → list_all is_user_call (leading_learns system editor) ≡ true
unfolding leading_learns
proper-leading system editor e h =
    let len = option_map_or (λ (piece : Piece). phrase_len piece.phrase) (slice_get editor.pieces 0) 1 in
    cond_both (editor.settings.learn && has_sound editor.buffer.cells 0) (learn_shown system editor 0 (leading_cells editor) ∷ []) [] (λ calls. list_all is_user_call calls ≡ true)
    (λ f.
    let sound = (and_parts editor.settings.learn (has_sound editor.buffer.cells 0) f).1 in
    let lead = lead-sounds editor.buffer.cells editor.pieces h.covered h.steady.pieces sound in
    let same : leading_cells editor ≡ len = cond-true (has_sound editor.buffer.cells 0) len 1 sound in
    and_from (is_user_call (learn_shown system editor 0 (leading_cells editor))) true
    (subst (λ (n : ℕ). is_user_call (learn_shown system editor 0 n) ≡ true) (sym same) (proper-shown system editor 0 len e h lead.sounds lead.some lead.most)) refl)
    (λ _. refl)

-- what a pressed key changes in the dictionary
abbrev pub changes_of : Pressed → List Call
changes_of (Done editor line) = []
changes_of (Ask pending) = pending.changes

record Changes (pressed : Pressed) : Type 0 where
  pub proper : list_all is_user_call (changes_of pressed) ≡ true

done : (editor : Editor) (line : Line) → Changes (Done editor line)
done editor line = record { proper = refl }

either : (b : Bool) (pressed other : Pressed) → (b ≡ true → Changes pressed) → Changes other → Changes (if b then pressed else other)
either true pressed other first second = first refl
either false pressed other first second = second

asked : (system : List Row) (pending : Pending) → list_all is_user_call pending.changes ≡ true → Changes (asking system pending)
unfolding asking
asked system pending h =
    either (length (calls_of pending) == 0) (Done (finish system pending []).editor (finish system pending []).line) (Ask pending) (λ _. done _ _) (record { proper = h })

edited : (system : List Row) (editor : Editor) (buffer : Buffer) → Changes (edit system editor buffer)
unfolding edit
edited system editor buffer = asked system (with_buffer editor buffer) refl

inserting : (system : List Row) (editor : Editor) (cell : Cell) → list_all is_row system ≡ true → IsEditor editor → Changes (insert system editor cell)
unfolding insert releasing
inserting system editor cell e h =
    either (is_full editor.buffer) (asking system (releasing system editor cell)) (edit system editor (inserted editor.buffer cell))
    (λ _. asked system (releasing system editor cell) (proper-leading system editor e h)) (edited system editor (inserted editor.buffer cell))

stepping : (system : List Row) (editor : Editor) (byte : ℕ) (step : Step) → list_all is_row system ≡ true → IsEditor editor → Changes (after_step system editor byte step)
unfolding after_step
stepping system editor byte Kept e h = done editor _
stepping system editor byte (Whole code) e h = either (has_single system code) (insert system editor (Sound code)) (bell editor) (λ _. inserting system editor (Sound code) e h) (done editor _)
stepping system editor byte Refused e h = done editor _
stepping system editor byte Erased e h = done editor _
stepping system editor byte NotMine e h = either (holds editor.layout) (bell editor) (insert system editor (Symbol byte)) (λ _. done editor _) (inserting system editor (Symbol byte) e h)

char : (system : List Row) (editor : Editor) (byte : ℕ) → list_all is_row system ≡ true → IsEditor editor → Changes (press_char system editor byte)
unfolding press_char
char system editor byte e h =
    let turn = feed editor.layout byte in
    stepping system (record editor { layout = turn.layout }) byte turn.step e (relaid editor turn.layout h (feed-in_range editor.layout byte h.steady.layout))

-- so many cells ahead are syllables
pub sounds-ahead : (buffer : Buffer) (len : ℕ) → are_sounds_ahead buffer len ≡ true → AreSounds buffer.cells buffer.cursor len
sounds-ahead buffer len e =
    let parts = and_parts (nat_le (buffer.cursor + len) (length buffer.cells)) (list_all is_sound (take len (drop buffer.cursor buffer.cells))) e in
    record { within = leb-true (buffer.cursor + len) (length buffer.cells) parts.0; sounds = parts.1 }

about : (system : List Row) (editor : Editor) (len : ℕ) (change : Call) (note : Note) → (AreSounds editor.buffer.cells editor.buffer.cursor len → is_user_call change ≡ true)
    → Changes (press_about system editor len change note)
unfolding press_about
about system editor len change note h =
    either (are_sounds_ahead editor.buffer len) (asking system (record (with_buffer editor editor.buffer) { changes = change ∷ []; note = note })) (bell editor)
    (λ e. asked system (record (with_buffer editor editor.buffer) { changes = change ∷ []; note = note }) (and_from (is_user_call change) true (h (sounds-ahead editor.buffer len e)) refl))
    (done editor _)

entering : (system : List Row) (editor : Editor) → list_all is_row system ≡ true → IsEditor editor → Changes (press_enter system editor)
unfolding press_enter
entering system editor e h =
    let cells = editor.buffer.cells in
    let changes = if editor.settings.learn then learns system editor.buffer.cells editor.buffer.breaks editor.pieces else [] in
    let pending = record (with_buffer editor (emptied editor.buffer)) { changes = changes; commit = shown_text editor } in
    either (length editor.buffer.cells == 0) (bell editor) (asking system (record (with_buffer editor (emptied editor.buffer)) { changes = changes; commit = shown_text editor }))
    (λ _. done editor _)
    (asked system (record (with_buffer editor (emptied editor.buffer)) { changes = changes; commit = shown_text editor })
    (cond_both editor.settings.learn (learns system cells editor.buffer.breaks editor.pieces) [] (λ calls. list_all is_user_call calls ≡ true)
    (λ _. proper-learns system cells editor.buffer.breaks editor.pieces e (IsBuffer-from editor.buffer h.steady.buffer).cells h.covered h.steady.pieces) (λ _. refl)))

free : (system : List Row) (editor : Editor) (key : KeyStroke) → list_all is_row system ≡ true → IsEditor editor → is_key_stroke key ≡ true → Changes (press_free system editor key)
unfolding press_free press_delete press_left press_right press_tab press_down press_add press_forget press_hide
free system editor Enter e h k = entering system editor e h
free system editor Delete e h k =
    either (nat_lt editor.buffer.cursor (length editor.buffer.cells)) (edit system editor (deleted editor.buffer)) (bell editor) (λ _. edited system editor (deleted editor.buffer)) (done editor _)
free system editor Left e h k = either (editor.buffer.cursor == 0) (bell editor) (go_to editor (editor.buffer.cursor - 1)) (λ _. done editor _) (done _ _)
free system editor Right e h k =
    either (nat_lt editor.buffer.cursor (length editor.buffer.cells)) (go_to editor (editor.buffer.cursor + 1)) (bell editor) (λ _. done _ _) (done editor _)
free system editor Home e h k = done _ _
free system editor End e h k = done _ _
free system editor Tab e h k = either (can_break editor.buffer) (edit system editor (break_toggled editor.buffer)) (bell editor) (λ _. edited system editor (break_toggled editor.buffer)) (done editor _)
free system editor (Add cells) e h k =
    let range = and_parts (nat_le 2 cells) (nat_le cells 9) k in
    let l = leb-true 2 cells range.0 in
    let m = leb-true cells 9 range.1 in
    about system editor cells (learn_shown system editor editor.buffer.cursor cells) Added (λ s. proper-shown system editor editor.buffer.cursor cells e h s (omega arith) (omega arith))
free system editor (Forget cells) e h k =
    let range = and_parts (nat_le 1 cells) (nat_le cells 9) k in
    let l = leb-true 1 cells range.0 in
    let m = leb-true cells 9 range.1 in
    about system editor cells (call.Forget (key_at editor.buffer.cells editor.buffer.cursor cells) (text_at editor editor.buffer.cursor cells)) line.Forgot
    (λ s. shown-pair editor editor.buffer.cursor cells h s (omega arith) (omega arith))
free system editor (Hide cells) e h k =
    let range = and_parts (nat_le 2 cells) (nat_le cells 9) k in
    let l = leb-true 2 cells range.0 in
    let m = leb-true cells 9 range.1 in
    let key = key_at editor.buffer.cells editor.buffer.cursor cells in
    about system editor cells (call.Hide (key_at editor.buffer.cells editor.buffer.cursor cells) (text_at editor editor.buffer.cursor cells)) line.Hidden
    (λ s. and_from (is_pair key (text_at editor editor.buffer.cursor cells)) (can_hide key) (shown-pair editor editor.buffer.cursor cells h s (omega arith) (omega arith))
    (le-leb 2 (length key) (let long = (length-key_at editor.buffer.cells editor.buffer.cursor cells (IsBuffer-from editor.buffer h.steady.buffer).cells s).0 in omega arith)))
free system editor Down e h k =
    either (has_sound editor.buffer.cells (window_place editor.buffer)) (Ask (opening editor (window_place editor.buffer))) (bell editor) (λ _. record { proper = refl }) (done editor _)
free system editor _ e h k = done editor _

backspacing : (system : List Row) (editor : Editor) → Changes (press_backspace system editor)
unfolding press_backspace
backspacing system editor =
    either (holds editor.layout) (quiet (record editor { layout = (feed editor.layout backspace).layout }))
    (if editor.buffer.cursor == 0 then bell editor else edit system editor (backspaced editor.buffer)) (λ _. done _ _)
    (either (editor.buffer.cursor == 0) (bell editor) (edit system editor (backspaced editor.buffer)) (λ _. done editor _) (edited system editor (backspaced editor.buffer)))

escaping : (system : List Row) (editor : Editor) → Changes (press_esc system editor)
unfolding press_esc
escaping system editor =
    let clears = editor.settings.escape_clears && nat_lt 0 (length editor.buffer.cells) in
    either (holds editor.layout) (quiet (record editor { layout = cleared editor.layout }))
    (if clears then edit system editor (emptied editor.buffer) else bell editor) (λ _. done _ _)
    (either clears (edit system editor (emptied editor.buffer)) (bell editor) (λ _. edited system editor (emptied editor.buffer)) (done editor _))

plain : (system : List Row) (editor : Editor) (key : KeyStroke) → list_all is_row system ≡ true → IsEditor editor → is_key_stroke key ≡ true → Changes (press_plain system editor key)
unfolding press_plain
plain system editor (Char byte) e h k = char system editor byte e h
plain system editor Backspace e h k = backspacing system editor
plain system editor Esc e h k = escaping system editor
plain system editor key e h k = either (holds editor.layout) (bell editor) (press_free system editor key) (λ _. done editor _) (free system editor key e h k)

picking : (system : List Row) (editor : Editor) (choice : Option Choice) → Changes (option_map_or (λ c. edit system editor (chosen c editor.buffer)) choice (bell editor))
picking system editor None = done editor _
picking system editor (Some choice) = edited system editor (chosen choice editor.buffer)

window : (system : List Row) (editor : Editor) (open_now : Window) (key : KeyStroke) → Changes (press_window system editor open_now key)
unfolding press_window press_selection
window system editor open_now (Char byte) = picking system editor _
window system editor open_now Down = done _ _
window system editor open_now PageDown = done _ _
window system editor open_now Right = done _ _
window system editor open_now PageUp = done _ _
window system editor open_now Left = done _ _
window system editor open_now Up = done _ _
window system editor open_now Esc = done _ _
window system editor open_now _ = done editor _

by_window : (system : List Row) (editor : Editor) (key : KeyStroke) (open_now : Option Window) → list_all is_row system ≡ true → IsEditor editor → is_key_stroke key ≡ true
    → Changes (option_map_or (λ w. press_window system editor w key) open_now (press_plain system editor key))
by_window system editor key None e h k = plain system editor key e h k
by_window system editor key (Some open_now) e h k = window system editor open_now key

press-changes : (system : List Row) (editor : Editor) (key : KeyStroke) → list_all is_row system ≡ true → is_editor editor ≡ true → is_key_stroke key ≡ true
    → list_all is_user_call (changes_of (press system editor key)) ≡ true
unfolding press
press-changes system editor key e h k = (by_window system editor key editor.window e (IsEditor-from editor h) k).proper

-- no run ends behind the cells
with_sound-end : (place code end : ℕ) (runs : List PlacedRun) → suc place ≤ end → list_all (λ run. nat_le (run_end run) end) runs ≡ true
    → list_all (λ run. nat_le (run_end run) end) (with_sound place code runs) ≡ true
with_sound-end place code end [] l e = and_from (nat_le (place + 1) end) true (le-leb (place + 1) end (omega arith)) refl
with_sound-end place code end (run ∷ runs) l e =
    let parts = and_parts (nat_le (run_end run) end) (list_all (λ r. nat_le (run_end r) end) runs) e in
    let m = leb-true (run_end run) end parts.0 in
    cond_both (run.start == suc place) (record { start = place; codes = code ∷ run.codes } ∷ runs) (record { start = place; codes = code ∷ [] } ∷ (run ∷ runs))
    (λ rs. list_all (λ r. nat_le (run_end r) end) rs ≡ true)
    (λ f. let same = eqb-true run.start (suc place) f in
    and_from (nat_le (place + suc (length run.codes)) end) _ (le-leb (place + suc (length run.codes)) end (omega arith)) parts.1)
    (λ _. and_from (nat_le (place + 1) end) _ (le-leb (place + 1) end (omega arith)) e)

runs-end : (place end : ℕ) (cells : List Cell) → place + length cells ≤ end → list_all (λ run. nat_le (run_end run) end) (runs_from place cells) ≡ true
runs-end place end [] l = refl
runs-end place end (Sound code ∷ cells) l = with_sound-end place code end (runs_from (suc place) cells) (omega arith) (runs-end (suc place) end cells (omega arith))
runs-end place end (Symbol byte ∷ cells) l = runs-end (suc place) end cells (omega arith)

code-cells : (cells : List Cell) → list_all is_cell cells ≡ true → list_all (sound_passes is_code) cells ≡ true
code-cells cells e = list_all-weaker is_cell (sound_passes is_code) each cells e
  where
    each : (cell : Cell) → is_cell cell ≡ true → sound_passes is_code cell ≡ true
    each (Sound code) e = e
    each (Symbol byte) e = refl

both-runs : (runs : List PlacedRun) (end : ℕ) → end ≤ 39 → list_all (λ run. list_all is_code run.codes) runs ≡ true → list_all (λ run. nat_le (run_end run) end) runs ≡ true
    → list_all (λ run. is_run run.codes) runs ≡ true
both-runs [] end l e f = refl
both-runs (run ∷ runs) end l e f =
    let codes = and_parts (list_all is_code run.codes) (list_all (λ r. list_all is_code r.codes) runs) e in
    let ends = and_parts (nat_le (run_end run) end) (list_all (λ r. nat_le (run_end r) end) runs) f in
    let m = leb-true (run_end run) end ends.0 in
    and_from (is_run run.codes) _ (and_from (list_all is_code run.codes) _ codes.0 (le-leb (length run.codes) 39 (omega arith))) (both-runs runs end l codes.1 ends.1)

-- each run may be looked up
proper-runs : (buffer : Buffer) → is_buffer buffer ≡ true → list_all (λ run. is_run run.codes) (runs_of buffer.cells) ≡ true
unfolding runs_of
proper-runs buffer e =
    let h = IsBuffer-from buffer e in
    let few = h.few in
    let most = h.most in
    both-runs (runs_from 0 buffer.cells) (0 + length buffer.cells) (omega arith) (runs-pass is_code buffer.cells (code-cells buffer.cells h.cells))
    (runs-end 0 (0 + length buffer.cells) buffer.cells (omega arith))

-- what all pass, what is found passes
found-passes : {X : Type 0} (q p : X → Bool) (xs : List X) → list_all q xs ≡ true → list_all q (option_to_list (find p xs)) ≡ true
found-passes {X} q p xs e = by_found (find p xs) refl
  where
    by_found : (found : Option X) → find p xs ≡ found → list_all q (option_to_list found) ≡ true
    by_found None f = refl
    by_found (Some x) f = and_from (q x) true (passes q xs x e ((Passes-from_find p xs x f).among)) refl

asked-runs : (editor : Editor) (opens : Option ℕ) (changes : List Call) (commit : List ℕ) (note : Note) → is_buffer editor.buffer ≡ true
    → list_all (λ run. is_run run.codes) (runs_asked (record { editor = editor; changes = changes; commit = commit; note = note; opens = opens })) ≡ true
asked-runs editor None changes commit note e = proper-runs editor.buffer e
asked-runs editor (Some place) changes commit note e =
    found-passes (λ run. is_run run.codes) (λ run. is_in_run run place) (runs_of editor.buffer.cells) (proper-runs editor.buffer e)

pub user-calls : (system : List Row) (editor : Editor) (key : KeyStroke) (pending : Pending) → list_all is_row system ≡ true → is_editor editor ≡ true
    → is_key_stroke key ≡ true → press system editor key ≡ Ask pending → list_all is_user_call (calls_of pending) ≡ true
unfolding is_pending
user-calls system editor key pending e h k d =
    let changes = subst (λ p. list_all is_user_call (changes_of p) ≡ true) d (press-changes system editor key e h k) in
    let steady = IsSteady-from pending.editor ((and_parts (is_steady pending.editor) (asks_rightly pending) (is_pending-ask system editor key pending h k d)).0) in
    list_all-join is_user_call pending.changes (map (λ run. Look run.codes) (runs_asked pending)) changes
    (list_all-map is_user_call (λ run. Look run.codes) (runs_asked pending)
    ∙ asked-runs pending.editor pending.opens pending.changes pending.commit pending.note steady.buffer)

pub proper-calls : (system : List Row) (editor : Editor) (key : KeyStroke) (pending : Pending) → list_all is_row system ≡ true → is_editor editor ≡ true
    → is_key_stroke key ≡ true → press system editor key ≡ Ask pending → list_all is_proper (calls_of pending) ≡ true
proper-calls system editor key pending e h k d =
    list_all-weaker is_user_call is_proper (λ call u. (and_parts (not (is_keepers call)) (is_proper call) u).1) (calls_of pending) (user-calls system editor key pending e h k d)
