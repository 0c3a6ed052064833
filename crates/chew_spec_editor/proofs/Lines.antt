-- The line of a key that asks nothing shows the editor that the key leaves.
use Rattle.std.specs.Prelude.{◌≡◌, ℕ, Bool, true, false, List, [], length, ◌==◌, ◌&&◌, nat_lt, Option, Some, None, if◌then◌else◌}
use Rattle.std.specs.Option.{option_map_or}
use Rattle.std.proofs.Common.{arith}
use Rattle.chew_spec_syllable.specs.Row.{Row}
use Rattle.chew_spec_dictionary.specs.Call.{Call}
use Rattle.chew_spec_layout.specs.Layout.{cleared, feed, holds}
use Rattle.chew_spec_layout.specs.Step.{Step, Kept, Whole, Refused, Erased, NotMine}
use Rattle.chew_spec_layout.specs.Table.{backspace}
use Rattle.chew_spec_phrasing.specs.Usable.{Choice}
use Rattle.chew_spec_preedit.specs.Cell.{Cell}
use Rattle.chew_spec_preedit.specs.Edit.{backspaced, chosen, emptied}
use Rattle.chew_spec_preedit.specs.Window.{Window}
use Rattle.chew_spec_text.specs.KeyStroke.{KeyStroke, Char, Enter, Backspace, Delete, Left, Right, Home, End, Up, Down, PageUp, PageDown, Tab, Esc, Add, Forget, Hide}
use Rattle.chew_spec_text.specs.Line.{Line, Note}
use Rattle.chew_spec_editor.specs.Editor.{Editor, line_of}
use Rattle.chew_spec_editor.specs.Finish.{finish}
use Rattle.chew_spec_editor.specs.Keys.{press, press_free, press_plain, press_selection, press_window}
use Rattle.chew_spec_editor.specs.Pending.{Pending, calls_of, with_buffer}
use Rattle.chew_spec_editor.specs.PhraseKeys.{press_about, press_add, press_forget, press_hide}
use Rattle.chew_spec_editor.specs.Press.{Pressed, Done, Ask, after_step, asking, bell, edit, insert, press_backspace, press_char, press_delete, press_down, press_enter, press_esc, press_left, press_right, press_tab, quiet}

-- the line of a key that asks nothing shows its editor
record Shows (pressed : Pressed) : Type 0 where
  pub line : (editor : Editor) (line : Line) → pressed ≡ Done editor line → line ≡ line_of editor line.commit line.note

-- a line of an editor shows it
shown : (editor : Editor) (commit : List ℕ) (note : Note) → Shows (Done editor (line_of editor commit note))
unfolding line_of
shown editor commit note = record { line = λ after line h. grind arith }

-- a key that asks has no line yet
asks : (pending : Pending) → Shows (Ask pending)
asks pending = record { line = λ after line h. absurd cc }

-- one of two
either : (b : Bool) (pressed other : Pressed) → Shows pressed → Shows other → Shows (if b then pressed else other)
either true pressed other first second = first
either false pressed other first second = second

-- whether it asks or not
asked : (system : List Row) (pending : Pending) → Shows (asking system pending)
unfolding asking finish
asked system pending =
    either (length (calls_of pending) == 0) (Done (finish system pending []).editor (finish system pending []).line) (Ask pending) (shown _ _ _) (asks pending)

inserting : (system : List Row) (editor : Editor) (cell : Cell) → Shows (insert system editor cell)
unfolding insert edit
inserting system editor cell = either _ _ _ (asked system _) (asked system _)

stepping : (system : List Row) (editor : Editor) (byte : ℕ) (step : Step) → Shows (after_step system editor byte step)
unfolding after_step
stepping system editor byte Kept = shown _ _ _
stepping system editor byte (Whole code) = either _ _ _ (inserting system editor _) (shown _ _ _)
stepping system editor byte Refused = shown _ _ _
stepping system editor byte Erased = shown _ _ _
stepping system editor byte NotMine = either _ _ _ (shown _ _ _) (inserting system editor _)

char : (system : List Row) (editor : Editor) (byte : ℕ) → Shows (press_char system editor byte)
unfolding press_char
char system editor byte =
    let turn = feed editor.layout byte in
    stepping system (record editor { layout = turn.layout }) byte turn.step

about : (system : List Row) (editor : Editor) (len : ℕ) (call : Call) (note : Note) → Shows (press_about system editor len call note)
unfolding press_about
about system editor len call note = either _ _ _ (asked system _) (shown _ _ _)

free : (system : List Row) (editor : Editor) (key : KeyStroke) → Shows (press_free system editor key)
unfolding press_free press_enter press_delete press_left press_right press_tab press_down press_add press_forget press_hide edit
free system editor Enter = either _ _ _ (shown _ _ _) (asked system _)
free system editor Delete = either _ _ _ (asked system _) (shown _ _ _)
free system editor Left = either _ _ _ (shown _ _ _) (shown _ _ _)
free system editor Right = either _ _ _ (shown _ _ _) (shown _ _ _)
free system editor Home = shown _ _ _
free system editor End = shown _ _ _
free system editor Tab = either _ _ _ (asked system _) (shown _ _ _)
free system editor (Add cells) = about system editor cells _ _
free system editor (Forget cells) = about system editor cells _ _
free system editor (Hide cells) = about system editor cells _ _
free system editor Down = either _ _ _ (asks _) (shown _ _ _)
free system editor _ = shown _ _ _

backspacing : (system : List Row) (editor : Editor) → Shows (press_backspace system editor)
unfolding press_backspace edit
backspacing system editor =
    either (holds editor.layout) (quiet (record editor { layout = (feed editor.layout backspace).layout }))
    (if editor.buffer.cursor == 0 then bell editor else asking system (with_buffer editor (backspaced editor.buffer)))
    (shown _ _ _)
    (either (editor.buffer.cursor == 0) (bell editor) (asking system (with_buffer editor (backspaced editor.buffer))) (shown _ _ _) (asked system _))

escaping : (system : List Row) (editor : Editor) → Shows (press_esc system editor)
unfolding press_esc edit
escaping system editor =
    let clears = editor.settings.escape_clears && nat_lt 0 (length editor.buffer.cells) in
    let cleared_buffer = asking system (with_buffer editor (emptied editor.buffer)) in
    either (holds editor.layout) (quiet (record editor { layout = cleared editor.layout })) (if clears then cleared_buffer else bell editor)
    (shown _ _ _) (either clears cleared_buffer (bell editor) (asked system _) (shown _ _ _))

plain : (system : List Row) (editor : Editor) (key : KeyStroke) → Shows (press_plain system editor key)
unfolding press_plain
plain system editor (Char byte) = char system editor byte
plain system editor Backspace = backspacing system editor
plain system editor Esc = escaping system editor
plain system editor key = either _ _ _ (shown _ _ _) (free system editor key)

picking : (system : List Row) (editor : Editor) (choice : Option Choice) → Shows (option_map_or (λ c. edit system editor (chosen c editor.buffer)) choice (bell editor))
unfolding edit
picking system editor None = shown _ _ _
picking system editor (Some choice) = asked system _

window : (system : List Row) (editor : Editor) (open_now : Window) (key : KeyStroke) → Shows (press_window system editor open_now key)
unfolding press_window press_selection
window system editor open_now (Char byte) = picking system editor _
window system editor open_now Down = shown _ _ _
window system editor open_now PageDown = shown _ _ _
window system editor open_now Right = shown _ _ _
window system editor open_now PageUp = shown _ _ _
window system editor open_now Left = shown _ _ _
window system editor open_now Up = shown _ _ _
window system editor open_now Esc = shown _ _ _
window system editor open_now _ = shown _ _ _

by_window : (system : List Row) (editor : Editor) (key : KeyStroke) (open_now : Option Window)
    → Shows (option_map_or (λ w. press_window system editor w key) open_now (press_plain system editor key))
by_window system editor key None = plain system editor key
by_window system editor key (Some open_now) = window system editor open_now key

press-shows : (system : List Row) (editor : Editor) (key : KeyStroke) → Shows (press system editor key)
unfolding press
press-shows system editor key = by_window system editor key editor.window

-- the line of a key that asks nothing
pub press-line : (system : List Row) (editor after : Editor) (key : KeyStroke) (line : Line)
    → press system editor key ≡ Done after line → line ≡ line_of after line.commit line.note
press-line system editor after key line h = (press-shows system editor key).line after line h
