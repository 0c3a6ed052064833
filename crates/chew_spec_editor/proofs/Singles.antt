-- A key takes only syllables that the system has a row for by themselves.
use Rattle.std.specs.Prelude.{◌≡◌, ℕ, suc, ◌+◌, ◌-◌, Bool, true, false, List, [], ◌∷◌, ◌++◌, take, drop, length, ◌==◌, ◌&&◌, nat_lt, Option, Some, None, if◌then◌else◌}
use Rattle.std.specs.Option.{option_map_or}
use Rattle.std.specs.List.{list_all}
use Rattle.std.proofs.Common.{refl, subst}
use Rattle.std.proofs.lemmas.Bool.{and_from}
use Rattle.chew_spec_syllable.specs.Row.{Row}
use Rattle.chew_spec_dictionary.specs.Call.{Call}
use Rattle.chew_spec_dictionary.specs.System.{has_single}
use Rattle.chew_spec_layout.specs.Layout.{cleared, feed, holds}
use Rattle.chew_spec_layout.specs.Step.{Step, Kept, Whole, Refused, Erased, NotMine}
use Rattle.chew_spec_layout.specs.Table.{backspace}
use Rattle.chew_spec_phrasing.specs.Usable.{Choice}
use Rattle.chew_spec_preedit.specs.Buffer.{Buffer}
use Rattle.chew_spec_preedit.specs.Cell.{Cell, Sound, Symbol, has_sound}
use Rattle.chew_spec_preedit.specs.Edit.{backspaced, break_toggled, broken, can_break, chosen, deleted, emptied, has_break, inserted, is_full, mended, released}
use Rattle.chew_spec_preedit.specs.Window.{Window}
use Rattle.chew_spec_preedit.proofs.Kept.{list_all-join}
use Rattle.chew_spec_preedit.proofs.Parts.{list_all-drop, list_all-take}
use Rattle.chew_spec_text.specs.KeyStroke.{KeyStroke, Char, Enter, Backspace, Delete, Left, Right, Home, End, Up, Down, PageUp, PageDown, Tab, Esc, Add, Forget, Hide}
use Rattle.chew_spec_text.specs.Line.{Line, Note}
use Rattle.chew_spec_editor.specs.Editor.{Editor}
use Rattle.chew_spec_editor.specs.Finish.{finish}
use Rattle.chew_spec_editor.specs.Invariant.{HasSingles}
use Rattle.chew_spec_editor.specs.Keys.{press, press_free, press_plain, press_selection, press_window}
use Rattle.chew_spec_editor.specs.Pending.{Pending, calls_of, with_buffer}
use Rattle.chew_spec_editor.specs.PhraseKeys.{are_sounds_ahead, press_about, press_add, press_forget, press_hide}
use Rattle.chew_spec_editor.specs.Press.{Pressed, Done, Ask, after_step, asking, bell, edit, go_to, insert, leading_cells, opening, press_backspace, press_char, press_delete, press_down, press_enter, press_esc, press_left, press_right, press_tab, quiet, releasing, window_place}
use Rattle.chew_spec_editor.proofs.Layouts.{left_by}
use Rattle.chew_spec_editor.proofs.PlacedRuns.{sound_passes, sounds-pass}
use Rattle.chew_spec_editor.proofs.ShownRows.{passes}

-- the system has a row for each of the cells' syllables
abbrev pub has_all : List Row → List Cell → Bool
has_all system cells = list_all (sound_passes (has_single system)) cells

-- and for those of the buffer that a pressed key leaves
record Holds (system : List Row) (pressed : Pressed) : Type 0 where
  pub all : has_all system (left_by pressed).buffer.cells ≡ true

done : (system : List Row) (editor : Editor) (line : Line) → has_all system editor.buffer.cells ≡ true → Holds system (Done editor line)
done system editor line h = record { all = h }

either : (system : List Row) (b : Bool) (pressed other : Pressed) → (b ≡ true → Holds system pressed) → Holds system other → Holds system (if b then pressed else other)
either system true pressed other first second = first refl
either system false pressed other first second = second

asked : (system : List Row) (pending : Pending) → has_all system pending.editor.buffer.cells ≡ true → Holds system (asking system pending)
unfolding asking finish
asked system pending h =
    either system (length (calls_of pending) == 0) (Done (finish system pending []).editor (finish system pending []).line) (Ask pending) (λ _. record { all = h }) (record { all = h })

inserted-all : (system : List Row) (buffer : Buffer) (cell : Cell) → has_all system buffer.cells ≡ true → sound_passes (has_single system) cell ≡ true
    → has_all system (inserted buffer cell).cells ≡ true
unfolding inserted
inserted-all system buffer cell h c =
    let q = sound_passes (has_single system) in
    list_all-join q (take buffer.cursor buffer.cells) (cell ∷ drop buffer.cursor buffer.cells) (list_all-take q buffer.cursor buffer.cells h)
    (and_from (q cell) (list_all q (drop buffer.cursor buffer.cells)) c (list_all-drop q buffer.cursor buffer.cells h))

released-all : (system : List Row) (buffer : Buffer) (count : ℕ) → has_all system buffer.cells ≡ true → has_all system (released count buffer).cells ≡ true
unfolding released
released-all system buffer count h = list_all-drop (sound_passes (has_single system)) count buffer.cells h

without-all : (system : List Row) (cells : List Cell) (at : ℕ) → has_all system cells ≡ true → has_all system (take at cells ++ drop (suc at) cells) ≡ true
without-all system cells at h =
    let q = sound_passes (has_single system) in
    list_all-join q (take at cells) (drop (suc at) cells) (list_all-take q at cells h) (list_all-drop q (suc at) cells h)

toggled-all : (system : List Row) (buffer : Buffer) → has_all system buffer.cells ≡ true → has_all system (break_toggled buffer).cells ≡ true
unfolding break_toggled
toggled-all system buffer h = by_break (has_break buffer.breaks buffer.cursor)
  where
    by_break : (b : Bool) → has_all system (if b then mended buffer else broken buffer).cells ≡ true
    by_break true = h
    by_break false = h

inserting : (system : List Row) (editor : Editor) (cell : Cell) → has_all system editor.buffer.cells ≡ true → sound_passes (has_single system) cell ≡ true
    → Holds system (insert system editor cell)
unfolding insert releasing edit
inserting system editor cell h c =
    either system (is_full editor.buffer) (asking system (releasing system editor cell)) (edit system editor (inserted editor.buffer cell))
    (λ _. asked system (releasing system editor cell)
    (inserted-all system (released (leading_cells editor) editor.buffer) cell (released-all system editor.buffer (leading_cells editor) h) c))
    (asked system (with_buffer editor (inserted editor.buffer cell)) (inserted-all system editor.buffer cell h c))

stepping : (system : List Row) (editor : Editor) (byte : ℕ) (step : Step) → has_all system editor.buffer.cells ≡ true → Holds system (after_step system editor byte step)
unfolding after_step
stepping system editor byte Kept h = done system editor _ h
stepping system editor byte (Whole code) h =
    either system (has_single system code) (insert system editor (Sound code)) (bell editor) (λ single. inserting system editor (Sound code) h single) (done system editor _ h)
stepping system editor byte Refused h = done system editor _ h
stepping system editor byte Erased h = done system editor _ h
stepping system editor byte NotMine h =
    either system (holds editor.layout) (bell editor) (insert system editor (Symbol byte)) (λ _. done system editor _ h) (inserting system editor (Symbol byte) h refl)

char : (system : List Row) (editor : Editor) (byte : ℕ) → has_all system editor.buffer.cells ≡ true → Holds system (press_char system editor byte)
unfolding press_char
char system editor byte h =
    let turn = feed editor.layout byte in
    stepping system (record editor { layout = turn.layout }) byte turn.step h

about : (system : List Row) (editor : Editor) (len : ℕ) (call : Call) (note : Note) → has_all system editor.buffer.cells ≡ true → Holds system (press_about system editor len call note)
unfolding press_about
about system editor len call note h =
    let pending = record (with_buffer editor editor.buffer) { changes = call ∷ []; note = note } in
    either system (are_sounds_ahead editor.buffer len) (asking system (record (with_buffer editor editor.buffer) { changes = call ∷ []; note = note })) (bell editor)
    (λ _. asked system (record (with_buffer editor editor.buffer) { changes = call ∷ []; note = note }) h) (done system editor _ h)

entering : (system : List Row) (editor : Editor) → has_all system editor.buffer.cells ≡ true → Holds system (press_enter system editor)
unfolding press_enter
entering system editor h =
    either system (length editor.buffer.cells == 0) (bell editor) _ (λ _. done system editor _ h) (asked system _ refl)

free : (system : List Row) (editor : Editor) (key : KeyStroke) → has_all system editor.buffer.cells ≡ true → Holds system (press_free system editor key)
unfolding press_free press_delete press_left press_right press_tab press_down press_add press_forget press_hide edit deleted
free system editor Enter h = entering system editor h
free system editor Delete h =
    either system (nat_lt editor.buffer.cursor (length editor.buffer.cells)) (edit system editor (deleted editor.buffer)) (bell editor)
    (λ _. asked system (with_buffer editor (deleted editor.buffer)) (without-all system editor.buffer.cells editor.buffer.cursor h)) (done system editor _ h)
free system editor Left h =
    either system (editor.buffer.cursor == 0) (bell editor) (go_to editor (editor.buffer.cursor - 1)) (λ _. done system editor _ h) (done system _ _ h)
free system editor Right h =
    either system (nat_lt editor.buffer.cursor (length editor.buffer.cells)) (go_to editor (editor.buffer.cursor + 1)) (bell editor) (λ _. done system _ _ h) (done system editor _ h)
free system editor Home h = done system _ _ h
free system editor End h = done system _ _ h
free system editor Tab h =
    either system (can_break editor.buffer) (edit system editor (break_toggled editor.buffer)) (bell editor)
    (λ _. asked system (with_buffer editor (break_toggled editor.buffer)) (toggled-all system editor.buffer h)) (done system editor _ h)
free system editor (Add cells) h = about system editor cells _ _ h
free system editor (Forget cells) h = about system editor cells _ _ h
free system editor (Hide cells) h = about system editor cells _ _ h
free system editor Down h =
    either system (has_sound editor.buffer.cells (window_place editor.buffer)) (Ask (opening editor (window_place editor.buffer))) (bell editor)
    (λ _. record { all = h }) (done system editor _ h)
free system editor _ h = done system editor _ h

backspacing : (system : List Row) (editor : Editor) → has_all system editor.buffer.cells ≡ true → Holds system (press_backspace system editor)
unfolding press_backspace edit backspaced
backspacing system editor h =
    either system (holds editor.layout) (quiet (record editor { layout = (feed editor.layout backspace).layout }))
    (if editor.buffer.cursor == 0 then bell editor else edit system editor (backspaced editor.buffer))
    (λ _. done system _ _ h)
    (either system (editor.buffer.cursor == 0) (bell editor) (edit system editor (backspaced editor.buffer)) (λ _. done system editor _ h)
    (asked system (with_buffer editor (backspaced editor.buffer)) (without-all system editor.buffer.cells (editor.buffer.cursor - 1) h)))

escaping : (system : List Row) (editor : Editor) → has_all system editor.buffer.cells ≡ true → Holds system (press_esc system editor)
unfolding press_esc edit
escaping system editor h =
    let clears = editor.settings.escape_clears && nat_lt 0 (length editor.buffer.cells) in
    either system (holds editor.layout) (quiet (record editor { layout = cleared editor.layout }))
    (if clears then edit system editor (emptied editor.buffer) else bell editor)
    (λ _. done system _ _ h)
    (either system clears (edit system editor (emptied editor.buffer)) (bell editor) (λ _. asked system (with_buffer editor (emptied editor.buffer)) refl) (done system editor _ h))

plain : (system : List Row) (editor : Editor) (key : KeyStroke) → has_all system editor.buffer.cells ≡ true → Holds system (press_plain system editor key)
unfolding press_plain
plain system editor (Char byte) h = char system editor byte h
plain system editor Backspace h = backspacing system editor h
plain system editor Esc h = escaping system editor h
plain system editor key h = either system (holds editor.layout) (bell editor) (press_free system editor key) (λ _. done system editor _ h) (free system editor key h)

picking : (system : List Row) (editor : Editor) (choice : Option Choice) → has_all system editor.buffer.cells ≡ true
    → Holds system (option_map_or (λ c. edit system editor (chosen c editor.buffer)) choice (bell editor))
unfolding edit chosen
picking system editor None h = done system editor _ h
picking system editor (Some choice) h = asked system (with_buffer editor (chosen choice editor.buffer)) h

window : (system : List Row) (editor : Editor) (open_now : Window) (key : KeyStroke) → has_all system editor.buffer.cells ≡ true → Holds system (press_window system editor open_now key)
unfolding press_window press_selection
window system editor open_now (Char byte) h = picking system editor _ h
window system editor open_now Down h = done system _ _ h
window system editor open_now PageDown h = done system _ _ h
window system editor open_now Right h = done system _ _ h
window system editor open_now PageUp h = done system _ _ h
window system editor open_now Left h = done system _ _ h
window system editor open_now Up h = done system _ _ h
window system editor open_now Esc h = done system _ _ h
window system editor open_now _ h = done system _ _ h

by_window : (system : List Row) (editor : Editor) (key : KeyStroke) (open_now : Option Window) → has_all system editor.buffer.cells ≡ true
    → Holds system (option_map_or (λ w. press_window system editor w key) open_now (press_plain system editor key))
by_window system editor key None h = plain system editor key h
by_window system editor key (Some open_now) h = window system editor open_now key h

press-singles : (system : List Row) (editor : Editor) (key : KeyStroke) → HasSingles system editor.buffer.cells → has_all system (left_by (press system editor key)).buffer.cells ≡ true
unfolding press
press-singles system editor key h = (by_window system editor key editor.window (sounds-pass (has_single system) editor.buffer.cells h.each)).all

HasSingles-from : (system : List Row) (cells : List Cell) → has_all system cells ≡ true → HasSingles system cells
HasSingles-from system cells e = record { each = λ code i. passes (sound_passes (has_single system)) cells (Sound code) e i }

pub HasSingles-done : (system : List Row) (editor after : Editor) (key : KeyStroke) (line : Line) → HasSingles system editor.buffer.cells
    → press system editor key ≡ Done after line → HasSingles system after.buffer.cells
HasSingles-done system editor after key line h d =
    HasSingles-from system after.buffer.cells (subst (λ p. has_all system (left_by p).buffer.cells ≡ true) d (press-singles system editor key h))

pub HasSingles-ask : (system : List Row) (editor : Editor) (key : KeyStroke) (pending : Pending) → HasSingles system editor.buffer.cells
    → press system editor key ≡ Ask pending → HasSingles system pending.editor.buffer.cells
HasSingles-ask system editor key pending h d =
    HasSingles-from system pending.editor.buffer.cells (subst (λ p. has_all system (left_by p).buffer.cells ≡ true) d (press-singles system editor key h))
