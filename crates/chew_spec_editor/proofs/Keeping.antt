-- A key leaves an editor, or a pending one while it asks.
use Rattle.std.specs.Prelude.{◌≡◌, ℕ, ◌+◌, ◌-◌, ◌≤◌, Bool, true, false, List, [], ◌∷◌, ◌++◌, map, flat_map, bytes_eq, length, drop, ◌==◌, ◌&&◌, nat_lt, Option, Some, None, if◌then◌else◌}
use Rattle.std.specs.Option.{option_map_or}
use Rattle.std.specs.List.{list_all}
use Rattle.std.proofs.Common.{arith, refl, subst, sym, ap, ◌∙◌, eqb-true, length-append, length-drop}
use Rattle.std.proofs.lemmas.Bool.{and_from, eqb-false, leb-true, lt-leb, ltb-true}
use Rattle.std.proofs.lemmas.List.{length-map, nil_from_length}
use Rattle.chew_spec_syllable.specs.Row.{Row}
use Rattle.chew_spec_syllable.specs.Syllable.{is_code}
use Rattle.chew_spec_dictionary.specs.Call.{Call, Look}
use Rattle.chew_spec_layout.specs.Layout.{Layout, cleared, feed, holds, is_layout}
use Rattle.chew_spec_layout.specs.Step.{Step, Kept, Whole, Refused, Erased, NotMine}
use Rattle.chew_spec_layout.specs.Table.{backspace}
use Rattle.chew_spec_layout.proofs.AnyLayout.{feed-code, feed-in_range, new-in_range}
use Rattle.chew_spec_dictionary.specs.System.{has_single}
use Rattle.chew_spec_phrasing.specs.Usable.{Choice}
use Rattle.chew_spec_preedit.specs.Buffer.{Buffer, is_buffer, is_choice_of}
use Rattle.chew_spec_preedit.specs.Cell.{Cell, Sound, Symbol, has_sound, is_cell}
use Rattle.chew_spec_preedit.specs.Edit.{backspaced, break_toggled, broken, can_break, chosen, deleted, emptied, has_break, inserted, is_full, mended, moved_to, released}
use Rattle.chew_spec_preedit.specs.PlacedRun.{PlacedRun, runs_of}
use Rattle.chew_spec_preedit.specs.Window.{Window, next_page, page_before, shorter}
use Rattle.chew_spec_preedit.proofs.Cut.{is_buffer-backspaced, is_buffer-deleted, is_buffer-released}
use Rattle.chew_spec_preedit.proofs.Inserted.{is_buffer-inserted}
use Rattle.chew_spec_preedit.proofs.IsBuffer.{IsBuffer-from}
use Rattle.chew_spec_preedit.proofs.Marked.{is_buffer-break_toggled, is_buffer-chosen, is_buffer-empty, is_buffer-emptied, is_buffer-moved_to}
use Rattle.chew_spec_text.specs.KeyStroke.{KeyStroke, Char, Enter, Backspace, Delete, Left, Right, Home, End, Up, Down, PageUp, PageDown, Tab, Esc, Add, Forget, Hide, is_key_stroke, is_printable}
use Rattle.chew_spec_text.specs.Line.{Line, Note, Quiet}
use Rattle.chew_spec_editor.specs.Editor.{Editor, empty_editor, shown_text}
use Rattle.chew_spec_editor.specs.Finish.{finish, phrased}
use Rattle.chew_spec_editor.specs.Invariant.{asks_rightly, covers, is_editor, is_pending, is_piece, run_places, is_settings, is_steady, is_window_over}
use Rattle.chew_spec_editor.specs.Keys.{press, press_free, press_plain, press_selection, press_window}
use Rattle.chew_spec_editor.specs.Learning.{learns}
use Rattle.chew_spec_editor.specs.Pending.{Pending, calls_of}
use Rattle.chew_spec_editor.specs.PhraseKeys.{are_sounds_ahead, press_about, press_add, press_forget, press_hide}
use Rattle.chew_spec_editor.specs.Press.{Pressed, Done, Ask, after_step, asking, bell, edit, go_to, insert, leading_cells, opening, press_backspace, press_char, press_delete, press_down, press_enter, press_esc, press_left, press_right, press_tab, quiet, releasing, window_place}
use Rattle.chew_spec_editor.specs.Settings.{Settings}
use Rattle.chew_spec_editor.proofs.Feeding.{cleared-in_range}
use Rattle.chew_spec_editor.proofs.Leading.{leading-within}
use Rattle.chew_spec_editor.proofs.SoundPlaces.{covers-from_same}
use Rattle.chew_spec_editor.proofs.Steady.{HasRanges-from, IsEditor, IsEditor-from, IsSteady, is_editor-from, is_steady-from}
use Rattle.chew_spec_editor.proofs.Windows.{over-next_page, over-page_before, over-shorter, picked-choice_at}

-- what a pressed key leaves is an editor, or a pending one
abbrev pub is_kept : Pressed → Bool
is_kept (Done editor line) = is_editor editor
is_kept (Ask pending) = is_pending pending

record Keeps (pressed : Pressed) : Type 0 where
  pub kept : is_kept pressed ≡ true

done : (editor : Editor) (line : Line) → IsEditor editor → Keeps (Done editor line)
done editor line h = record { kept = is_editor-from editor h }

-- one of two
either : (b : Bool) (pressed other : Pressed) → (b ≡ true → Keeps pressed) → (b ≡ false → Keeps other) → Keeps (if b then pressed else other)
either true pressed other first second = first refl
either false pressed other first second = second refl

-- the editor with another buffer, whose runs are asked anew
abbrev rebuffered : Editor → Buffer → Editor
rebuffered editor buffer = record editor { buffer = buffer; pieces = []; window = None }

abbrev asking_for : Editor → Buffer → List Call → List ℕ → Note → Pending
asking_for editor buffer changes commit note = record { editor = rebuffered editor buffer; changes = changes; commit = commit; note = note; opens = None }

rebuffered-steady : (editor : Editor) (buffer : Buffer) → IsSteady editor → is_buffer buffer ≡ true → buffer.limit ≡ editor.buffer.limit → IsSteady (rebuffered editor buffer)
rebuffered-steady editor buffer h b l = record {
  settings = h.settings;
  layout = h.layout;
  buffer = b;
  limit = l ∙ h.limit;
  pieces = refl;
  window = refl;
}

-- without a call there is no run
pub no_runs : (changes : List Call) (runs : List PlacedRun) (calls : List Call) → length calls ≡ 0 → calls ≡ changes ++ map (λ (run : PlacedRun). Look run.codes) runs → runs ≡ []
no_runs changes runs calls e f =
    nil_from_length runs (omega (arith, ap length f, length-append changes (map (λ (run : PlacedRun). Look run.codes) runs), length-map runs (λ (run : PlacedRun). Look run.codes)))

asked : (system : List Row) (editor : Editor) (buffer : Buffer) (changes : List Call) (commit : List ℕ) (note : Note)
    → IsSteady editor → is_buffer buffer ≡ true → buffer.limit ≡ editor.buffer.limit → Keeps (asking system (asking_for editor buffer changes commit note))
unfolding asking finish is_pending phrased
asked system editor buffer changes commit note h b l =
    let pending = asking_for editor buffer changes commit note in
    let steady = rebuffered-steady editor buffer h b l in
    either (length (calls_of pending) == 0) (Done (finish system pending []).editor (finish system pending []).line) (Ask pending)
    (λ e.
    let none = no_runs changes (runs_of buffer.cells) (calls_of pending) (eqb-true (length (calls_of pending)) 0 e) refl in
    let pieces = ap (λ runs. phrased system buffer [] runs (drop (length changes) [])) none in
    done (finish system pending []).editor (finish system pending []).line (record {
      steady = record {
        settings = steady.settings;
        layout = steady.layout;
        buffer = steady.buffer;
        limit = steady.limit;
        pieces = subst (λ ps. list_all is_piece ps ≡ true) (sym pieces) refl;
        window = refl;
      };
      covered = subst (λ ps. covers buffer.cells ps ≡ true) (sym pieces) (no_cells buffer.cells none);
    }))
    (λ _. record { kept = and_from (is_steady pending.editor) (asks_rightly pending) (is_steady-from pending.editor steady) refl })
  where
    no_cells : (cells : List Cell) → runs_of cells ≡ [] → covers cells [] ≡ true
    no_cells cells none = ap (λ runs. bytes_eq [] (flat_map run_places runs)) none

edited : (system : List Row) (editor : Editor) (buffer : Buffer) → IsSteady editor → is_buffer buffer ≡ true → buffer.limit ≡ editor.buffer.limit → Keeps (edit system editor buffer)
unfolding edit
edited system editor buffer h b l = asked system editor buffer [] [] _ h b l

-- with another layout
pub relaid : (editor : Editor) (layout : Layout) → IsEditor editor → is_layout layout ≡ true → IsEditor (record editor { layout = layout })
relaid editor layout h e = record {
  steady = record {
    settings = h.steady.settings;
    layout = e;
    buffer = h.steady.buffer;
    limit = h.steady.limit;
    pieces = h.steady.pieces;
    window = h.steady.window;
  };
  covered = h.covered;
}

-- with the cursor at another place
going : (editor : Editor) (place : ℕ) → IsEditor editor → place ≤ length editor.buffer.cells → IsEditor (record editor { buffer = moved_to place editor.buffer })
going editor place h l = record {
  steady = record {
    settings = h.steady.settings;
    layout = h.steady.layout;
    buffer = is_buffer-moved_to editor.buffer place h.steady.buffer l;
    limit = h.steady.limit;
    pieces = h.steady.pieces;
    window = h.steady.window;
  };
  covered = h.covered;
}

-- with another window
rewindowed : (editor : Editor) (window : Option Window) → IsEditor editor → option_map_or (is_window_over editor.buffer) window true ≡ true → IsEditor (record editor { window = window })
rewindowed editor window h e = record {
  steady = record {
    settings = h.steady.settings;
    layout = h.steady.layout;
    buffer = h.steady.buffer;
    limit = h.steady.limit;
    pieces = h.steady.pieces;
    window = e;
  };
  covered = h.covered;
}

-- a full buffer that released its leading cells takes a cell
with_room : (buffer : Buffer) (count : ℕ) (cell : Cell) → is_buffer buffer ≡ true → is_cell cell ≡ true → 1 ≤ count → count ≤ length buffer.cells
    → is_buffer (inserted (released count buffer) cell) ≡ true
unfolding released
with_room buffer count cell e c l m =
    let h = IsBuffer-from buffer e in
    let few = h.few in
    is_buffer-inserted (released count buffer) cell (is_buffer-released buffer count e m)
    (lt-leb buffer.limit (length (drop count buffer.cells)) (let d = length-drop count buffer.cells in omega arith)) c

inserted-limit : (buffer : Buffer) (cell : Cell) → (inserted buffer cell).limit ≡ buffer.limit
unfolding inserted
inserted-limit buffer cell = refl

released-limit : (buffer : Buffer) (count : ℕ) → (released count buffer).limit ≡ buffer.limit
unfolding released
released-limit buffer count = refl

inserting : (system : List Row) (editor : Editor) (cell : Cell) → IsEditor editor → is_cell cell ≡ true → Keeps (insert system editor cell)
unfolding insert releasing
inserting system editor cell h c =
    let buffer = IsBuffer-from editor.buffer h.steady.buffer in
    let some = buffer.some in
    either (is_full editor.buffer) (asking system (releasing system editor cell)) (edit system editor (inserted editor.buffer cell))
    (λ full.
    let filled = leb-true editor.buffer.limit (length editor.buffer.cells) full in
    let front = leading-within editor h (omega arith) in
    asked system editor (inserted (released (leading_cells editor) editor.buffer) cell) _ _ _ h.steady
    (with_room editor.buffer (leading_cells editor) cell h.steady.buffer c front.some front.within)
    (inserted-limit (released (leading_cells editor) editor.buffer) cell ∙ released-limit editor.buffer (leading_cells editor)))
    (λ room. edited system editor (inserted editor.buffer cell) h.steady (is_buffer-inserted editor.buffer cell h.steady.buffer room c) (inserted-limit editor.buffer cell))

stepping : (system : List Row) (editor : Editor) (byte : ℕ) (step : Step) → IsEditor editor → is_printable byte ≡ true
    → ((code : ℕ) → step ≡ Whole code → is_code code ≡ true) → Keeps (after_step system editor byte step)
unfolding after_step
stepping system editor byte Kept h p w = done editor _ h
stepping system editor byte (Whole code) h p w =
    either (has_single system code) (insert system editor (Sound code)) (bell editor) (λ _. inserting system editor (Sound code) h (w code refl)) (λ _. done editor _ h)
stepping system editor byte Refused h p w = done editor _ h
stepping system editor byte Erased h p w = done editor _ h
stepping system editor byte NotMine h p w =
    either (holds editor.layout) (bell editor) (insert system editor (Symbol byte)) (λ _. done editor _ h) (λ _. inserting system editor (Symbol byte) h p)

char : (system : List Row) (editor : Editor) (byte : ℕ) → IsEditor editor → is_printable byte ≡ true → Keeps (press_char system editor byte)
unfolding press_char
char system editor byte h p =
    let turn = feed editor.layout byte in
    stepping system (record editor { layout = turn.layout }) byte turn.step
    (relaid editor turn.layout h (feed-in_range editor.layout byte h.steady.layout)) p
    (λ code e. feed-code editor.layout byte code h.steady.layout e)

about : (system : List Row) (editor : Editor) (len : ℕ) (call : Call) (note : Note) → IsEditor editor → Keeps (press_about system editor len call note)
unfolding press_about
about system editor len call note h =
    either (are_sounds_ahead editor.buffer len) (asking system (asking_for editor editor.buffer (call ∷ []) [] note)) (bell editor)
    (λ _. asked system editor editor.buffer (call ∷ []) [] note h.steady h.steady.buffer refl) (λ _. done editor _ h)

limit-toggled : (buffer : Buffer) → (break_toggled buffer).limit ≡ buffer.limit
unfolding break_toggled
limit-toggled buffer = by_break (has_break buffer.breaks buffer.cursor)
  where
    by_break : (b : Bool) → (if b then mended buffer else broken buffer).limit ≡ buffer.limit
    by_break true = refl
    by_break false = refl

free : (system : List Row) (editor : Editor) (key : KeyStroke) → IsEditor editor → Keeps (press_free system editor key)
unfolding press_free press_enter press_delete press_left press_right press_tab press_down press_add press_forget press_hide deleted is_pending
free system editor Enter h =
    let changes = if editor.settings.learn then learns system editor.buffer.cells editor.buffer.breaks editor.pieces else [] in
    either (length editor.buffer.cells == 0) (bell editor) (asking system (asking_for editor (emptied editor.buffer) changes (shown_text editor) Quiet)) (λ _. done editor _ h)
    (λ _. asked system editor (emptied editor.buffer) changes (shown_text editor) Quiet h.steady (is_buffer-emptied editor.buffer h.steady.buffer) refl)
free system editor Delete h =
    either (nat_lt editor.buffer.cursor (length editor.buffer.cells)) (edit system editor (deleted editor.buffer)) (bell editor)
    (λ e. edited system editor (deleted editor.buffer) h.steady (is_buffer-deleted editor.buffer h.steady.buffer (ltb-true editor.buffer.cursor (length editor.buffer.cells) e)) refl)
    (λ _. done editor _ h)
free system editor Left h =
    let stands = (IsBuffer-from editor.buffer h.steady.buffer).stands in
    either (editor.buffer.cursor == 0) (bell editor) (go_to editor (editor.buffer.cursor - 1)) (λ _. done editor _ h) (λ _. done _ _ (going editor (editor.buffer.cursor - 1) h (omega arith)))
free system editor Right h =
    either (nat_lt editor.buffer.cursor (length editor.buffer.cells)) (go_to editor (editor.buffer.cursor + 1)) (bell editor)
    (λ e. let l = ltb-true editor.buffer.cursor (length editor.buffer.cells) e in done _ _ (going editor (editor.buffer.cursor + 1) h (omega arith))) (λ _. done editor _ h)
free system editor Home h = done _ _ (going editor 0 h (omega arith))
free system editor End h = done _ _ (going editor (length editor.buffer.cells) h (omega arith))
free system editor Tab h =
    either (can_break editor.buffer) (edit system editor (break_toggled editor.buffer)) (bell editor)
    (λ e. edited system editor (break_toggled editor.buffer) h.steady (is_buffer-break_toggled editor.buffer h.steady.buffer e) (limit-toggled editor.buffer))
    (λ _. done editor _ h)
free system editor (Add cells) h = about system editor cells _ _ h
free system editor (Forget cells) h = about system editor cells _ _ h
free system editor (Hide cells) h = about system editor cells _ _ h
free system editor Down h =
    let place = window_place editor.buffer in
    either (has_sound editor.buffer.cells place) (Ask (opening editor place)) (bell editor)
    (λ e. record {
      kept = and_from (is_steady editor) (asks_rightly (opening editor place)) (is_steady-from editor h.steady)
          (and_from (has_sound editor.buffer.cells place) (covers editor.buffer.cells editor.pieces) e h.covered);
    })
    (λ _. done editor _ h)
free system editor _ h = done editor _ h

backspacing : (system : List Row) (editor : Editor) → IsEditor editor → Keeps (press_backspace system editor)
unfolding press_backspace backspaced
backspacing system editor h =
    either (holds editor.layout) (quiet (record editor { layout = (feed editor.layout backspace).layout }))
    (if editor.buffer.cursor == 0 then bell editor else edit system editor (backspaced editor.buffer))
    (λ _. done _ _ (relaid editor (feed editor.layout backspace).layout h (feed-in_range editor.layout backspace h.steady.layout)))
    (λ _. either (editor.buffer.cursor == 0) (bell editor) (edit system editor (backspaced editor.buffer)) (λ _. done editor _ h)
    (λ e. edited system editor (backspaced editor.buffer) h.steady
    (is_buffer-backspaced editor.buffer h.steady.buffer (let d = eqb-false editor.buffer.cursor 0 e in omega arith)) refl))

escaping : (system : List Row) (editor : Editor) → IsEditor editor → Keeps (press_esc system editor)
unfolding press_esc
escaping system editor h =
    let clears = editor.settings.escape_clears && nat_lt 0 (length editor.buffer.cells) in
    let cleared_buffer = edit system editor (emptied editor.buffer) in
    either (holds editor.layout) (quiet (record editor { layout = cleared editor.layout }))
    (if clears then cleared_buffer else bell editor)
    (λ _. done _ _ (relaid editor (cleared editor.layout) h (cleared-in_range editor.layout)))
    (λ _. either clears cleared_buffer (bell editor)
    (λ _. edited system editor (emptied editor.buffer) h.steady (is_buffer-emptied editor.buffer h.steady.buffer) refl) (λ _. done editor _ h))

plain : (system : List Row) (editor : Editor) (key : KeyStroke) → IsEditor editor → is_key_stroke key ≡ true → Keeps (press_plain system editor key)
unfolding press_plain
plain system editor (Char byte) h k = char system editor byte h k
plain system editor Backspace h k = backspacing system editor h
plain system editor Esc h k = escaping system editor h
plain system editor key h k = either (holds editor.layout) (bell editor) (press_free system editor key) (λ _. done editor _ h) (λ _. free system editor key h)

picking : (system : List Row) (editor : Editor) (choice : Option Choice) → IsEditor editor
    → option_map_or (is_choice_of editor.buffer.cells editor.buffer.breaks) choice true ≡ true
    → Keeps (option_map_or (λ c. edit system editor (chosen c editor.buffer)) choice (bell editor))
unfolding chosen
picking system editor None h e = done editor _ h
picking system editor (Some choice) h e =
    edited system editor (chosen choice editor.buffer) h.steady (is_buffer-chosen editor.buffer choice h.steady.buffer e) refl

window : (system : List Row) (editor : Editor) (open_now : Window) (key : KeyStroke) → IsEditor editor → is_window_over editor.buffer open_now ≡ true
    → Keeps (press_window system editor open_now key)
unfolding press_window press_selection
window system editor open_now (Char byte) h e = picking system editor _ h (picked-choice_at editor.buffer open_now _ e)
window system editor open_now Down h e = done _ _ (rewindowed editor (Some (shorter open_now)) h (over-shorter editor.buffer open_now e))
window system editor open_now PageDown h e = done _ _ (rewindowed editor (Some (next_page open_now)) h (over-next_page editor.buffer open_now e))
window system editor open_now Right h e = done _ _ (rewindowed editor (Some (next_page open_now)) h (over-next_page editor.buffer open_now e))
window system editor open_now PageUp h e = done _ _ (rewindowed editor (Some (page_before open_now)) h (over-page_before editor.buffer open_now e))
window system editor open_now Left h e = done _ _ (rewindowed editor (Some (page_before open_now)) h (over-page_before editor.buffer open_now e))
window system editor open_now Up h e = done _ _ (rewindowed editor None h refl)
window system editor open_now Esc h e = done _ _ (rewindowed editor None h refl)
window system editor open_now _ h e = done editor _ h

by_window : (system : List Row) (editor : Editor) (key : KeyStroke) (open_now : Option Window) → IsEditor editor → is_key_stroke key ≡ true
    → option_map_or (is_window_over editor.buffer) open_now true ≡ true
    → Keeps (option_map_or (λ w. press_window system editor w key) open_now (press_plain system editor key))
by_window system editor key None h k e = plain system editor key h k
by_window system editor key (Some open_now) h k e = window system editor open_now key h e

pub press-keeps : (system : List Row) (editor : Editor) (key : KeyStroke) → is_editor editor ≡ true → is_key_stroke key ≡ true → is_kept (press system editor key) ≡ true
unfolding press
press-keeps system editor key e k =
    let h = IsEditor-from editor e in
    (by_window system editor key editor.window h k h.steady.window).kept

pub is_editor-done : (system : List Row) (editor after : Editor) (key : KeyStroke) (line : Line) → is_editor editor ≡ true → is_key_stroke key ≡ true
    → press system editor key ≡ Done after line → is_editor after ≡ true
is_editor-done system editor after key line e k d = subst (λ p. is_kept p ≡ true) d (press-keeps system editor key e k)

pub is_pending-ask : (system : List Row) (editor : Editor) (key : KeyStroke) (pending : Pending) → is_editor editor ≡ true → is_key_stroke key ≡ true
    → press system editor key ≡ Ask pending → is_pending pending ≡ true
is_pending-ask system editor key pending e k d = subst (λ p. is_kept p ≡ true) d (press-keeps system editor key e k)

pub is_editor-empty : (settings : Settings) → is_settings settings ≡ true → is_editor (empty_editor settings) ≡ true
is_editor-empty settings e =
    let ranges = HasRanges-from settings e in
    is_editor-from (empty_editor settings) (record {
      steady = record {
        settings = e;
        layout = new-in_range settings.layout;
        buffer = is_buffer-empty settings.buffer ranges.some_cells ranges.few_cells;
        limit = refl;
        pieces = refl;
        window = refl;
      };
      covered = covers-from_same [] [] refl;
    })
