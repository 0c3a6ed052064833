-- Which pieces a key leaves before any reply: those that were shown, or none where all runs are asked.
use Rattle.std.specs.Prelude.{◌≡◌, ℕ, suc, ◌+◌, ◌-◌, Bool, true, false, List, [], ◌∷◌, ◌++◌, take, drop, length, ◌==◌, ◌&&◌, ◌⊎◌, nat_lt, Option, Some, None, if◌then◌else◌}
use Rattle.std.specs.Option.{option_map_or}
use Rattle.std.proofs.Common.{refl, sym, ◌∙◌, eqb-true, inl, inr}
use Rattle.chew_spec_syllable.specs.Row.{Row}
use Rattle.chew_spec_dictionary.specs.Call.{Call}
use Rattle.chew_spec_dictionary.specs.System.{has_single}
use Rattle.chew_spec_layout.specs.Layout.{cleared, feed, holds}
use Rattle.chew_spec_layout.specs.Step.{Step, Kept, Whole, Refused, Erased, NotMine}
use Rattle.chew_spec_layout.specs.Table.{backspace}
use Rattle.chew_spec_phrasing.specs.Usable.{Choice}
use Rattle.chew_spec_preedit.specs.Cell.{Cell, Sound, Symbol, has_sound}
use Rattle.chew_spec_preedit.specs.Edit.{backspaced, break_toggled, can_break, chosen, deleted, emptied, inserted, is_full}
use Rattle.chew_spec_preedit.specs.PlacedRun.{runs_of}
use Rattle.chew_spec_preedit.specs.Window.{Window, next_page, page_before, shorter}
use Rattle.chew_spec_text.specs.KeyStroke.{KeyStroke, Char, Enter, Backspace, Delete, Left, Right, Home, End, Up, Down, PageUp, PageDown, Tab, Esc, Add, Forget, Hide}
use Rattle.chew_spec_text.specs.Line.{Line, Note}
use Rattle.chew_spec_editor.specs.Editor.{Editor}
use Rattle.chew_spec_editor.specs.Finish.{finish}
use Rattle.chew_spec_editor.specs.Keys.{press, press_free, press_plain, press_selection, press_window}
use Rattle.chew_spec_editor.specs.Pending.{Pending, calls_of, runs_asked, with_buffer}
use Rattle.chew_spec_editor.specs.PhraseKeys.{are_sounds_ahead, press_about, press_add, press_forget, press_hide}
use Rattle.chew_spec_editor.specs.Press.{Pressed, Done, Ask, after_step, asking, bell, edit, go_to, insert, opening, press_backspace, press_char, press_delete, press_down, press_enter, press_esc, press_left, press_right, press_tab, quiet, releasing, window_place}
use Rattle.chew_spec_editor.proofs.Keeping.{no_runs}
use Rattle.chew_spec_editor.proofs.RunPieces.{all-runs-asked}

-- an editor with the pieces of another, and all that they were made of but the rows
pub record IsKept (before after : Editor) : Type 0 where
  pub cells : after.buffer.cells ≡ before.buffer.cells
  pub breaks : after.buffer.breaks ≡ before.buffer.breaks
  pub choices : after.buffer.choices ≡ before.buffer.choices
  pub pieces : after.pieces ≡ before.pieces

-- what a pressed key leaves has them, or it has no run, or all runs are asked
abbrev pub Leaves : Editor → Pressed → Type 0
Leaves before (Done after line) = IsKept before after ⊎ (runs_of after.buffer.cells ≡ [])
Leaves before (Ask pending) = (pending.opens ≡ None) ⊎ IsKept before pending.editor

pub record LeavesPieces (before : Editor) (pressed : Pressed) : Type 0 where
  pub left : Leaves before pressed

done : (before editor : Editor) (line : Line) → IsKept before editor → LeavesPieces before (Done editor line)
done before editor line k = record { left = inl k }

either : (before : Editor) (b : Bool) (pressed other : Pressed) → (b ≡ true → LeavesPieces before pressed) → LeavesPieces before other → LeavesPieces before (if b then pressed else other)
either before true pressed other first second = first refl
either before false pressed other first second = second

asked : (before : Editor) (system : List Row) (pending : Pending) → pending.opens ≡ None → LeavesPieces before (asking system pending)
unfolding asking finish
asked before system pending none =
    either before (length (calls_of pending) == 0) (Done (finish system pending []).editor (finish system pending []).line) (Ask pending)
    (λ e. record {
      left = inr (sym (all-runs-asked pending none)
          ∙ no_runs pending.changes (runs_asked pending) (calls_of pending) (eqb-true (length (calls_of pending)) 0 e) refl);
    })
    (record { left = inl none })

inserting : (before : Editor) (system : List Row) (editor : Editor) (cell : Cell) → LeavesPieces before (insert system editor cell)
unfolding insert releasing edit
inserting before system editor cell =
    either before (is_full editor.buffer) (asking system (releasing system editor cell)) (edit system editor (inserted editor.buffer cell))
    (λ _. asked before system (releasing system editor cell) refl)
    (asked before system (with_buffer editor (inserted editor.buffer cell)) refl)

stepping : (before : Editor) (system : List Row) (editor : Editor) (byte : ℕ) (step : Step) → IsKept before editor → LeavesPieces before (after_step system editor byte step)
unfolding after_step
stepping before system editor byte Kept k = done before editor _ k
stepping before system editor byte (Whole code) k =
    either before (has_single system code) (insert system editor (Sound code)) (bell editor) (λ _. inserting before system editor (Sound code)) (done before editor _ k)
stepping before system editor byte Refused k = done before editor _ k
stepping before system editor byte Erased k = done before editor _ k
stepping before system editor byte NotMine k =
    either before (holds editor.layout) (bell editor) (insert system editor (Symbol byte)) (λ _. done before editor _ k) (inserting before system editor (Symbol byte))

char : (before : Editor) (system : List Row) (editor : Editor) (byte : ℕ) → IsKept before editor → LeavesPieces before (press_char system editor byte)
unfolding press_char
char before system editor byte k =
    let turn = feed editor.layout byte in
    stepping before system (record editor { layout = turn.layout }) byte turn.step (record { cells = k.cells; breaks = k.breaks; choices = k.choices; pieces = k.pieces })

about : (before : Editor) (system : List Row) (editor : Editor) (len : ℕ) (call : Call) (note : Note) → IsKept before editor → LeavesPieces before (press_about system editor len call note)
unfolding press_about
about before system editor len call note k =
    either before (are_sounds_ahead editor.buffer len) (asking system (record (with_buffer editor editor.buffer) { changes = call ∷ []; note = note })) (bell editor)
    (λ _. asked before system (record (with_buffer editor editor.buffer) { changes = call ∷ []; note = note }) refl) (done before editor _ k)

entering : (before : Editor) (system : List Row) (editor : Editor) → IsKept before editor → LeavesPieces before (press_enter system editor)
unfolding press_enter
entering before system editor k =
    either before (length editor.buffer.cells == 0) (bell editor) _ (λ _. done before editor _ k) (asked before system _ refl)

free : (before : Editor) (system : List Row) (editor : Editor) (key : KeyStroke) → IsKept before editor → LeavesPieces before (press_free system editor key)
unfolding press_free press_delete press_left press_right press_tab press_down press_add press_forget press_hide edit deleted
free before system editor Enter k = entering before system editor k
free before system editor Delete k =
    either before (nat_lt editor.buffer.cursor (length editor.buffer.cells)) (edit system editor (deleted editor.buffer)) (bell editor)
    (λ _. asked before system (with_buffer editor (deleted editor.buffer)) refl) (done before editor _ k)
free before system editor Left k =
    either before (editor.buffer.cursor == 0) (bell editor) (go_to editor (editor.buffer.cursor - 1)) (λ _. done before editor _ k) (done before _ _ (record { cells = k.cells; breaks = k.breaks; choices = k.choices; pieces = k.pieces }))
free before system editor Right k =
    either before (nat_lt editor.buffer.cursor (length editor.buffer.cells)) (go_to editor (editor.buffer.cursor + 1)) (bell editor) (λ _. done before _ _ (record { cells = k.cells; breaks = k.breaks; choices = k.choices; pieces = k.pieces })) (done before editor _ k)
free before system editor Home k = done before _ _ (record { cells = k.cells; breaks = k.breaks; choices = k.choices; pieces = k.pieces })
free before system editor End k = done before _ _ (record { cells = k.cells; breaks = k.breaks; choices = k.choices; pieces = k.pieces })
free before system editor Tab k =
    either before (can_break editor.buffer) (edit system editor (break_toggled editor.buffer)) (bell editor)
    (λ _. asked before system (with_buffer editor (break_toggled editor.buffer)) refl) (done before editor _ k)
free before system editor (Add cells) k = about before system editor cells _ _ k
free before system editor (Forget cells) k = about before system editor cells _ _ k
free before system editor (Hide cells) k = about before system editor cells _ _ k
free before system editor Down k =
    either before (has_sound editor.buffer.cells (window_place editor.buffer)) (Ask (opening editor (window_place editor.buffer))) (bell editor)
    (λ _. record { left = inr k }) (done before editor _ k)
free before system editor _ k = done before editor _ k

backspacing : (before : Editor) (system : List Row) (editor : Editor) → IsKept before editor → LeavesPieces before (press_backspace system editor)
unfolding press_backspace edit
backspacing before system editor k =
    either before (holds editor.layout) (quiet (record editor { layout = (feed editor.layout backspace).layout }))
    (if editor.buffer.cursor == 0 then bell editor else edit system editor (backspaced editor.buffer))
    (λ _. done before _ _ (record { cells = k.cells; breaks = k.breaks; choices = k.choices; pieces = k.pieces }))
    (either before (editor.buffer.cursor == 0) (bell editor) (edit system editor (backspaced editor.buffer)) (λ _. done before editor _ k)
    (asked before system (with_buffer editor (backspaced editor.buffer)) refl))

escaping : (before : Editor) (system : List Row) (editor : Editor) → IsKept before editor → LeavesPieces before (press_esc system editor)
unfolding press_esc edit
escaping before system editor k =
    let clears = editor.settings.escape_clears && nat_lt 0 (length editor.buffer.cells) in
    either before (holds editor.layout) (quiet (record editor { layout = cleared editor.layout }))
    (if clears then edit system editor (emptied editor.buffer) else bell editor)
    (λ _. done before _ _ (record { cells = k.cells; breaks = k.breaks; choices = k.choices; pieces = k.pieces }))
    (either before clears (edit system editor (emptied editor.buffer)) (bell editor) (λ _. asked before system (with_buffer editor (emptied editor.buffer)) refl) (done before editor _ k))

plain : (before : Editor) (system : List Row) (editor : Editor) (key : KeyStroke) → IsKept before editor → LeavesPieces before (press_plain system editor key)
unfolding press_plain
plain before system editor (Char byte) k = char before system editor byte k
plain before system editor Backspace k = backspacing before system editor k
plain before system editor Esc k = escaping before system editor k
plain before system editor key k = either before (holds editor.layout) (bell editor) (press_free system editor key) (λ _. done before editor _ k) (free before system editor key k)

picking : (before : Editor) (system : List Row) (editor : Editor) (choice : Option Choice) → IsKept before editor
    → LeavesPieces before (option_map_or (λ c. edit system editor (chosen c editor.buffer)) choice (bell editor))
unfolding edit
picking before system editor None k = done before editor _ k
picking before system editor (Some choice) k = asked before system (with_buffer editor (chosen choice editor.buffer)) refl

window : (before : Editor) (system : List Row) (editor : Editor) (open_now : Window) (key : KeyStroke) → IsKept before editor → LeavesPieces before (press_window system editor open_now key)
unfolding press_window press_selection
window before system editor open_now (Char byte) k = picking before system editor _ k
window before system editor open_now Down k = done before _ _ (record { cells = k.cells; breaks = k.breaks; choices = k.choices; pieces = k.pieces })
window before system editor open_now PageDown k = done before _ _ (record { cells = k.cells; breaks = k.breaks; choices = k.choices; pieces = k.pieces })
window before system editor open_now Right k = done before _ _ (record { cells = k.cells; breaks = k.breaks; choices = k.choices; pieces = k.pieces })
window before system editor open_now PageUp k = done before _ _ (record { cells = k.cells; breaks = k.breaks; choices = k.choices; pieces = k.pieces })
window before system editor open_now Left k = done before _ _ (record { cells = k.cells; breaks = k.breaks; choices = k.choices; pieces = k.pieces })
window before system editor open_now Up k = done before _ _ (record { cells = k.cells; breaks = k.breaks; choices = k.choices; pieces = k.pieces })
window before system editor open_now Esc k = done before _ _ (record { cells = k.cells; breaks = k.breaks; choices = k.choices; pieces = k.pieces })
window before system editor open_now _ k = done before editor _ k

by_window : (before : Editor) (system : List Row) (editor : Editor) (key : KeyStroke) (open_now : Option Window) → IsKept before editor
    → LeavesPieces before (option_map_or (λ w. press_window system editor w key) open_now (press_plain system editor key))
by_window before system editor key None k = plain before system editor key k
by_window before system editor key (Some open_now) k = window before system editor open_now key k

pub press-pieces : (system : List Row) (editor : Editor) (key : KeyStroke) → LeavesPieces editor (press system editor key)
unfolding press
press-pieces system editor key = by_window editor system editor key editor.window (record { cells = refl; breaks = refl; choices = refl; pieces = refl })
