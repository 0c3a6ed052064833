-- What a key that rings leaves, and when a key asks.
use Rattle.std.specs.Prelude.{◌≡◌, ℕ, ◌+◌, ◌-◌, ◌<◌, Bool, true, false, List, [], ◌∷◌, map, take, length, ◌==◌, ◌&&◌, nat_lt, option_to_list, Option, Some, None, if◌then◌else◌}
use Rattle.std.specs.Option.{option_map_or}
use Rattle.std.proofs.Common.{refl, ap, sym, subst, ◌∙◌, arith, zero, suc}
use Rattle.std.proofs.lemmas.Bool.{cond-false, cond-true, eqb-false, false≢true, true≢false}
use Rattle.chew_spec_syllable.specs.Row.{Row}
use Rattle.chew_spec_dictionary.specs.Call.{Call, Look}
use Rattle.chew_spec_dictionary.specs.System.{has_single}
use Rattle.chew_spec_layout.specs.Layout.{Layout, cleared, feed, holds}
use Rattle.chew_spec_layout.specs.Step.{Step, Kept, Whole, Refused, Erased, NotMine}
use Rattle.chew_spec_layout.specs.Table.{backspace}
use Rattle.chew_spec_layout.proofs.AnyLayout.{feed-not_mine, feed-refused}
use Rattle.chew_spec_phrasing.specs.Usable.{Choice}
use Rattle.chew_spec_preedit.specs.Buffer.{Buffer}
use Rattle.chew_spec_preedit.specs.Cell.{Cell, Sound, Symbol, has_sound}
use Rattle.chew_spec_preedit.specs.Edit.{backspaced, break_toggled, can_break, chosen, deleted, emptied, inserted, is_full}
use Rattle.chew_spec_preedit.specs.PlacedRun.{PlacedRun}
use Rattle.chew_spec_preedit.specs.Window.{Window}
use Rattle.chew_spec_text.specs.KeyStroke.{KeyStroke, Char, Enter, Backspace, Delete, Left, Right, Home, End, Up, Down, PageUp, PageDown, Tab, Esc, Add, Forget, Hide}
use Rattle.chew_spec_text.specs.Line.{Line, Note, Quiet, Bell, Added}
use Rattle.chew_spec_text.specs.Line as line
use Rattle.chew_spec_editor.specs.Completion.{completes, is_whole}
use Rattle.chew_spec_editor.specs.Editor.{Editor, line_of, shown_text}
use Rattle.chew_spec_editor.specs.Finish.{finish, note_after}
use Rattle.chew_spec_editor.specs.Keys.{calls_asked, press, press_free, press_plain, press_selection, press_window}
use Rattle.chew_spec_editor.specs.Learning.{learns}
use Rattle.chew_spec_editor.specs.Pending.{Pending, calls_of, with_buffer}
use Rattle.chew_spec_editor.specs.PhraseKeys.{are_sounds_ahead, press_about, press_add, press_forget, press_hide}
use Rattle.chew_spec_editor.specs.Press.{Pressed, Done, Ask, after_step, asking, bell, edit, go_to, insert, opening, press_backspace, press_char, press_delete, press_down, press_enter, press_esc, press_left, press_right, press_tab, quiet, releasing, window_place}
use Rattle.chew_spec_editor.specs.Rung.{layout_rung}
use Rattle.chew_spec_editor.proofs.Feeding.{feed-whole}
use Rattle.chew_spec_editor.proofs.Layouts.{left_by}
use Rattle.chew_spec_editor.proofs.RunsAt.{HasRun-sound}

-- the note, and what is committed, of a key that asks nothing; and the note, if all goes well, of one that asks
abbrev pub note_in : Pressed → Note
note_in (Done editor line) = line.note
note_in (Ask pending) = pending.note

abbrev pub commit_in : Pressed → List ℕ
commit_in (Done editor line) = line.commit
commit_in (Ask pending) = []

abbrev pub is_done : Pressed → Bool
is_done (Done editor line) = true
is_done (Ask pending) = false

-- nothing changed but the layout
pub record Rung (editor : Editor) (layout : Layout) (pressed : Pressed) : Type 0 where
  pub same : left_by pressed ≡ record editor { layout = layout }
  pub commit : commit_in pressed ≡ []
  pub done : is_done pressed ≡ true

pub record Outcome (editor : Editor) (layout : Layout) (pressed : Pressed) : Type 0 where
  pub rung : note_in pressed ≡ Bell → Rung editor layout pressed
  pub calls : is_done pressed ≡ false → 0 < length (calls_asked pressed)

rings : (editor : Editor) (layout : Layout) → Outcome editor layout (bell (record editor { layout = layout }))
unfolding line_of
rings editor layout = record { rung = λ _. record { same = refl; commit = refl; done = refl }; calls = λ e. absurd (true≢false e) }

unfoldable pub is_quiet : Note → Bool
is_quiet Bell = false
is_quiet note = true

pub not-bell : (note : Note) → is_quiet note ≡ true → note ≡ Bell → ⊥
unfolding is_quiet
not-bell note q e = false≢true (ap is_quiet (sym e) ∙ q)

-- a quiet key
stays : (editor after : Editor) (layout : Layout) → Outcome editor layout (quiet after)
unfolding line_of is_quiet
stays editor after layout = record { rung = λ e. absurd (not-bell Quiet refl e); calls = λ e. absurd (true≢false e) }

either : (editor : Editor) (layout : Layout) (b : Bool) (pressed other : Pressed) → (b ≡ true → Outcome editor layout pressed) → (b ≡ false → Outcome editor layout other)
    → Outcome editor layout (if b then pressed else other)
either editor layout true pressed other first second = first refl
either editor layout false pressed other first second = second refl

take-nil : {X : Type 0} (n : ℕ) → take {A = X} n [] ≡ []
take-nil zero = refl
take-nil (suc n) = refl

asked : (system : List Row) (editor : Editor) (layout : Layout) (pending : Pending) → is_quiet pending.note ≡ true → Outcome editor layout (asking system pending)
unfolding asking finish line_of
asked system editor layout pending q =
    either editor layout (length (calls_of pending) == 0) (Done (finish system pending []).editor (finish system pending []).line) (Ask pending)
    (λ _. record {
      rung = λ e. absurd (not-bell pending.note q (ap (note_after pending.note) (sym (take-nil (length pending.changes))) ∙ e));
      calls = λ e. absurd (true≢false e);
    })
    (λ f. record {
      rung = λ e. absurd (not-bell pending.note q e);
      calls = λ _. let some = eqb-false (length (calls_of pending)) 0 f in omega arith;
    })

edited : (system : List Row) (editor from : Editor) (layout : Layout) (buffer : Buffer) → Outcome editor layout (edit system from buffer)
unfolding edit is_quiet
edited system editor from layout buffer = asked system editor layout (with_buffer from buffer) refl

inserting : (system : List Row) (editor from : Editor) (layout : Layout) (cell : Cell) → Outcome editor layout (insert system from cell)
unfolding insert releasing is_quiet
inserting system editor from layout cell =
    either editor layout (is_full from.buffer) (asking system (releasing system from cell)) (edit system from (inserted from.buffer cell))
    (λ _. asked system editor layout (releasing system from cell) refl) (λ _. edited system editor from layout (inserted from.buffer cell))

-- of a key that goes to the layout, which is this then
stepping : (system : List Row) (editor : Editor) (layout rung : Layout) (byte : ℕ) (step : Step)
    → ((code : ℕ) → step ≡ Whole code → layout ≡ rung) → (step ≡ Refused → layout ≡ rung) → (step ≡ NotMine → layout ≡ rung)
    → Outcome editor rung (after_step system (record editor { layout = layout }) byte step)
unfolding after_step
stepping system editor layout rung byte Kept w r n = stays editor _ rung
stepping system editor layout rung byte (Whole code) w r n =
    let now = record editor { layout = layout } in
    either editor rung (has_single system code) (insert system (record editor { layout = layout }) (Sound code)) (bell (record editor { layout = layout }))
    (λ _. inserting system editor (record editor { layout = layout }) rung (Sound code))
    (λ _. subst (λ (l : Layout). Outcome editor rung (bell (record editor { layout = l }))) (sym (w code refl)) (rings editor rung))
stepping system editor layout rung byte Refused w r n = subst (λ (l : Layout). Outcome editor rung (bell (record editor { layout = l }))) (sym (r refl)) (rings editor rung)
stepping system editor layout rung byte Erased w r n = stays editor _ rung
stepping system editor layout rung byte NotMine w r n =
    either editor rung (holds layout) (bell (record editor { layout = layout })) (insert system (record editor { layout = layout }) (Symbol byte))
    (λ _. subst (λ (l : Layout). Outcome editor rung (bell (record editor { layout = l }))) (sym (n refl)) (rings editor rung))
    (λ _. inserting system editor (record editor { layout = layout }) rung (Symbol byte))

char : (system : List Row) (editor : Editor) (byte : ℕ) → Outcome editor (layout_rung editor (Char byte)) (press_char system editor byte)
unfolding press_char
char system editor byte =
    let turn = feed editor.layout byte in
    stepping system editor turn.layout (layout_rung editor (Char byte)) byte turn.step
    (λ code e. let whole : is_whole turn.step ≡ true = ap is_whole e in
    feed-whole editor.layout byte whole ∙ sym (cond-true (completes editor (Char byte)) (cleared editor.layout) editor.layout whole))
    (λ e. feed-refused editor.layout byte e ∙ sym (cond-false (completes editor (Char byte)) (cleared editor.layout) editor.layout (ap is_whole e)))
    (λ e. feed-not_mine editor.layout byte e ∙ sym (cond-false (completes editor (Char byte)) (cleared editor.layout) editor.layout (ap is_whole e)))

about : (system : List Row) (editor : Editor) (len : ℕ) (call : Call) (note : Note) → is_quiet note ≡ true → Outcome editor editor.layout (press_about system editor len call note)
unfolding press_about
about system editor len call note q =
    either editor editor.layout (are_sounds_ahead editor.buffer len) (asking system (record (with_buffer editor editor.buffer) { changes = call ∷ []; note = note })) (bell editor)
    (λ _. asked system editor editor.layout (record (with_buffer editor editor.buffer) { changes = call ∷ []; note = note }) q) (λ _. rings editor editor.layout)

entering : (system : List Row) (editor : Editor) → Outcome editor editor.layout (press_enter system editor)
unfolding press_enter is_quiet
entering system editor =
    let changes = if editor.settings.learn then learns system editor.buffer.cells editor.buffer.breaks editor.pieces else [] in
    either editor editor.layout (length editor.buffer.cells == 0) (bell editor) (asking system (record (with_buffer editor (emptied editor.buffer)) { changes = changes; commit = shown_text editor }))
    (λ _. rings editor editor.layout)
    (λ _. asked system editor editor.layout (record (with_buffer editor (emptied editor.buffer)) { changes = changes; commit = shown_text editor }) refl)

-- a window opens over a run
opening-calls : (editor : Editor) (place : ℕ) → has_sound editor.buffer.cells place ≡ true → Outcome editor editor.layout (Ask (opening editor place))
unfolding is_quiet
opening-calls editor place e =
    let found = HasRun-sound editor.buffer.cells place e in
    record {
      rung = λ b. absurd (not-bell Quiet refl b);
      calls = λ _. let count = ap (λ run. length (map (λ (run : PlacedRun). Look run.codes) (option_to_list run))) found.is in omega arith;
    }

free : (system : List Row) (editor : Editor) (key : KeyStroke) → Outcome editor editor.layout (press_free system editor key)
unfolding press_free press_delete press_left press_right press_tab press_down press_add press_forget press_hide is_quiet
free system editor Enter = entering system editor
free system editor Delete =
    either editor editor.layout (nat_lt editor.buffer.cursor (length editor.buffer.cells)) (edit system editor (deleted editor.buffer)) (bell editor)
    (λ _. edited system editor editor editor.layout (deleted editor.buffer)) (λ _. rings editor editor.layout)
free system editor Left =
    either editor editor.layout (editor.buffer.cursor == 0) (bell editor) (go_to editor (editor.buffer.cursor - 1)) (λ _. rings editor editor.layout) (λ _. stays editor _ editor.layout)
free system editor Right =
    either editor editor.layout (nat_lt editor.buffer.cursor (length editor.buffer.cells)) (go_to editor (editor.buffer.cursor + 1)) (bell editor)
    (λ _. stays editor _ editor.layout) (λ _. rings editor editor.layout)
free system editor Home = stays editor _ editor.layout
free system editor End = stays editor _ editor.layout
free system editor Tab =
    either editor editor.layout (can_break editor.buffer) (edit system editor (break_toggled editor.buffer)) (bell editor)
    (λ _. edited system editor editor editor.layout (break_toggled editor.buffer)) (λ _. rings editor editor.layout)
free system editor (Add cells) = about system editor cells _ Added refl
free system editor (Forget cells) = about system editor cells _ line.Forgot refl
free system editor (Hide cells) = about system editor cells _ line.Hidden refl
free system editor Down =
    either editor editor.layout (has_sound editor.buffer.cells (window_place editor.buffer)) (Ask (opening editor (window_place editor.buffer))) (bell editor)
    (λ e. opening-calls editor (window_place editor.buffer) e) (λ _. rings editor editor.layout)
free system editor _ = rings editor editor.layout

backspacing : (system : List Row) (editor : Editor) → Outcome editor editor.layout (press_backspace system editor)
unfolding press_backspace
backspacing system editor =
    either editor editor.layout (holds editor.layout) (quiet (record editor { layout = (feed editor.layout backspace).layout }))
    (if editor.buffer.cursor == 0 then bell editor else edit system editor (backspaced editor.buffer)) (λ _. stays editor _ editor.layout)
    (λ _. either editor editor.layout (editor.buffer.cursor == 0) (bell editor) (edit system editor (backspaced editor.buffer))
    (λ _. rings editor editor.layout) (λ _. edited system editor editor editor.layout (backspaced editor.buffer)))

escaping : (system : List Row) (editor : Editor) → Outcome editor editor.layout (press_esc system editor)
unfolding press_esc
escaping system editor =
    let clears = editor.settings.escape_clears && nat_lt 0 (length editor.buffer.cells) in
    either editor editor.layout (holds editor.layout) (quiet (record editor { layout = cleared editor.layout }))
    (if clears then edit system editor (emptied editor.buffer) else bell editor) (λ _. stays editor _ editor.layout)
    (λ _. either editor editor.layout clears (edit system editor (emptied editor.buffer)) (bell editor)
    (λ _. edited system editor editor editor.layout (emptied editor.buffer)) (λ _. rings editor editor.layout))

plain : (system : List Row) (editor : Editor) (key : KeyStroke) → Outcome editor (layout_rung editor key) (press_plain system editor key)
unfolding press_plain
plain system editor (Char byte) = char system editor byte
plain system editor Backspace = backspacing system editor
plain system editor Esc = escaping system editor
plain system editor key = either editor editor.layout (holds editor.layout) (bell editor) (press_free system editor key) (λ _. rings editor editor.layout) (λ _. free system editor key)

picking : (system : List Row) (editor : Editor) (choice : Option Choice)
    → Outcome editor editor.layout (option_map_or (λ c. edit system editor (chosen c editor.buffer)) choice (bell editor))
picking system editor None = rings editor editor.layout
picking system editor (Some choice) = edited system editor editor editor.layout (chosen choice editor.buffer)

window : (system : List Row) (editor : Editor) (open_now : Window) (key : KeyStroke) → Outcome editor editor.layout (press_window system editor open_now key)
unfolding press_window press_selection
window system editor open_now (Char byte) = picking system editor _
window system editor open_now Down = stays editor _ editor.layout
window system editor open_now PageDown = stays editor _ editor.layout
window system editor open_now Right = stays editor _ editor.layout
window system editor open_now PageUp = stays editor _ editor.layout
window system editor open_now Left = stays editor _ editor.layout
window system editor open_now Up = stays editor _ editor.layout
window system editor open_now Esc = stays editor _ editor.layout
window system editor open_now _ = rings editor editor.layout

-- without a window
pub outcome-plain : (system : List Row) (editor : Editor) (key : KeyStroke) → editor.window ≡ None → Outcome editor (layout_rung editor key) (press system editor key)
unfolding press
outcome-plain system editor key e =
    subst (λ w. Outcome editor (layout_rung editor key) (option_map_or (λ o. press_window system editor o key) w (press_plain system editor key))) (sym e) (plain system editor key)

-- with one
pub outcome-window : (system : List Row) (editor : Editor) (key : KeyStroke) (open_now : Window) → editor.window ≡ Some open_now → Outcome editor editor.layout (press system editor key)
unfolding press
outcome-window system editor key open_now e =
    subst (λ w. Outcome editor editor.layout (option_map_or (λ o. press_window system editor o key) w (press_plain system editor key))) (sym e) (window system editor open_now key)
