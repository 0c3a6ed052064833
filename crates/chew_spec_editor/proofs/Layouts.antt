-- What a key makes of the layout.
use Rattle.std.specs.Prelude.{ℕ, Bool, true, false, List, [], length, ◌==◌, ◌&&◌, nat_lt, Option, Some, None, if◌then◌else◌}
use Rattle.std.specs.Option.{option_map_or}
use Rattle.chew_spec_syllable.specs.Row.{Row}
use Rattle.chew_spec_dictionary.specs.Call.{Call}
use Rattle.chew_spec_layout.specs.Layout.{Layout, cleared, feed, holds}
use Rattle.chew_spec_layout.specs.Step.{Step, Kept, Whole, Refused, Erased, NotMine}
use Rattle.chew_spec_layout.specs.Table.{backspace}
use Rattle.chew_spec_phrasing.specs.Usable.{Choice}
use Rattle.chew_spec_preedit.specs.Cell.{Cell}
use Rattle.chew_spec_preedit.specs.Edit.{backspaced, chosen, emptied}
use Rattle.chew_spec_preedit.specs.Window.{Window}
use Rattle.chew_spec_text.specs.KeyStroke.{KeyStroke, Char, Enter, Backspace, Delete, Left, Right, Home, End, Up, Down, PageUp, PageDown, Tab, Esc, Add, Forget, Hide}
use Rattle.chew_spec_text.specs.Line.{Line, Note}
use Rattle.chew_spec_editor.specs.Editor.{Editor}
use Rattle.chew_spec_editor.specs.Finish.{finish}
use Rattle.chew_spec_editor.specs.Keys.{press, press_free, press_plain, press_selection, press_window}
use Rattle.chew_spec_editor.specs.Pending.{Pending, calls_of, with_buffer}
use Rattle.chew_spec_editor.specs.PhraseKeys.{press_about, press_add, press_forget, press_hide}
use Rattle.chew_spec_editor.specs.Press.{Pressed, Done, Ask, after_step, asking, bell, edit, insert, press_backspace, press_char, press_delete, press_down, press_enter, press_esc, press_left, press_right, press_tab, quiet, releasing}

-- the editor that a pressed key leaves, or has while it asks
abbrev pub left_by : Pressed → Editor
left_by (Done editor line) = editor
left_by (Ask pending) = pending.editor

-- a key leaves the layout, feeds it a byte, or clears it
pub data LayoutStep (before : Layout) : Layout → Type 0 where
  Same : LayoutStep before before
  Fed : (byte : ℕ) → LayoutStep before (feed before byte).layout
  Cleared : LayoutStep before (cleared before)

-- the layout of what a pressed key leaves
record Steps (before : Layout) (pressed : Pressed) : Type 0 where
  pub step : LayoutStep before (left_by pressed).layout

-- the layout of a key that asks nothing
stays : (before : Layout) (editor : Editor) (line : Line) → LayoutStep before editor.layout → Steps before (Done editor line)
stays before editor line h = record { step = h }

-- the layout of a key that asks
waits : (before : Layout) (pending : Pending) → LayoutStep before pending.editor.layout → Steps before (Ask pending)
waits before pending h = record { step = h }

-- one of two
either : (before : Layout) (b : Bool) (pressed other : Pressed) → Steps before pressed → Steps before other → Steps before (if b then pressed else other)
either before true pressed other first second = first
either before false pressed other first second = second

-- whether it asks or not, the layout is that of the pending editor
asked : (system : List Row) (before : Layout) (pending : Pending) → LayoutStep before pending.editor.layout → Steps before (asking system pending)
unfolding asking finish
asked system before pending h =
    either before (length (calls_of pending) == 0) (Done (finish system pending []).editor (finish system pending []).line) (Ask pending) (record { step = h }) (record { step = h })

inserting : (system : List Row) (before : Layout) (editor : Editor) (cell : Cell) → LayoutStep before editor.layout → Steps before (insert system editor cell)
unfolding insert releasing edit
inserting system before editor cell h = either before _ _ _ (asked system before _ h) (asked system before _ h)

stepping : (system : List Row) (before : Layout) (editor : Editor) (byte : ℕ) (step : Step) → LayoutStep before editor.layout
    → Steps before (after_step system editor byte step)
unfolding after_step
stepping system before editor byte Kept h = stays _ _ _ h
stepping system before editor byte (Whole code) h = either before _ _ _ (inserting system before editor _ h) (stays _ _ _ h)
stepping system before editor byte Refused h = stays _ _ _ h
stepping system before editor byte Erased h = stays _ _ _ h
stepping system before editor byte NotMine h = either before _ _ _ (stays _ _ _ h) (inserting system before editor _ h)

char : (system : List Row) (editor : Editor) (byte : ℕ) → Steps editor.layout (press_char system editor byte)
unfolding press_char
char system editor byte =
    let turn = feed editor.layout byte in
    stepping system editor.layout (record editor { layout = turn.layout }) byte turn.step (Fed byte)

about : (system : List Row) (editor : Editor) (len : ℕ) (call : Call) (note : Note) → Steps editor.layout (press_about system editor len call note)
unfolding press_about
about system editor len call note = either editor.layout _ _ _ (asked system editor.layout _ Same) (stays _ _ _ Same)

free : (system : List Row) (editor : Editor) (key : KeyStroke) → Steps editor.layout (press_free system editor key)
unfolding press_free press_enter press_delete press_left press_right press_tab press_down press_add press_forget press_hide edit
free system editor Enter = either editor.layout _ _ _ (stays _ _ _ Same) (asked system editor.layout _ Same)
free system editor Delete = either editor.layout _ _ _ (asked system editor.layout _ Same) (stays _ _ _ Same)
free system editor Left = either editor.layout _ _ _ (stays _ _ _ Same) (stays _ _ _ Same)
free system editor Right = either editor.layout _ _ _ (stays _ _ _ Same) (stays _ _ _ Same)
free system editor Home = stays _ _ _ Same
free system editor End = stays _ _ _ Same
free system editor Tab = either editor.layout _ _ _ (asked system editor.layout _ Same) (stays _ _ _ Same)
free system editor (Add cells) = about system editor cells _ _
free system editor (Forget cells) = about system editor cells _ _
free system editor (Hide cells) = about system editor cells _ _
free system editor Down = either editor.layout _ _ _ (waits _ _ Same) (stays _ _ _ Same)
free system editor _ = stays _ _ _ Same

backspacing : (system : List Row) (editor : Editor) → Steps editor.layout (press_backspace system editor)
unfolding press_backspace edit
backspacing system editor =
    either editor.layout (holds editor.layout) (quiet (record editor { layout = (feed editor.layout backspace).layout }))
    (if editor.buffer.cursor == 0 then bell editor else asking system (with_buffer editor (backspaced editor.buffer)))
    (stays _ _ _ (Fed backspace))
    (either editor.layout (editor.buffer.cursor == 0) (bell editor) (asking system (with_buffer editor (backspaced editor.buffer)))
    (stays _ _ _ Same) (asked system editor.layout _ Same))

escaping : (system : List Row) (editor : Editor) → Steps editor.layout (press_esc system editor)
unfolding press_esc edit
escaping system editor =
    let clears = editor.settings.escape_clears && nat_lt 0 (length editor.buffer.cells) in
    let cleared_buffer = asking system (with_buffer editor (emptied editor.buffer)) in
    either editor.layout (holds editor.layout) (quiet (record editor { layout = cleared editor.layout }))
    (if clears then cleared_buffer else bell editor) (stays _ _ _ Cleared)
    (either editor.layout clears cleared_buffer (bell editor) (asked system editor.layout _ Same) (stays _ _ _ Same))

plain : (system : List Row) (editor : Editor) (key : KeyStroke) → Steps editor.layout (press_plain system editor key)
unfolding press_plain
plain system editor (Char byte) = char system editor byte
plain system editor Backspace = backspacing system editor
plain system editor Esc = escaping system editor
plain system editor key = either editor.layout _ _ _ (stays _ _ _ Same) (free system editor key)

picking : (system : List Row) (editor : Editor) (choice : Option Choice) → Steps editor.layout (option_map_or (λ c. edit system editor (chosen c editor.buffer)) choice (bell editor))
unfolding edit
picking system editor None = stays _ _ _ Same
picking system editor (Some choice) = asked system editor.layout _ Same

window : (system : List Row) (editor : Editor) (shown : Window) (key : KeyStroke) → Steps editor.layout (press_window system editor shown key)
unfolding press_window press_selection
window system editor shown (Char byte) = picking system editor _
window system editor shown Down = stays _ _ _ Same
window system editor shown PageDown = stays _ _ _ Same
window system editor shown Right = stays _ _ _ Same
window system editor shown PageUp = stays _ _ _ Same
window system editor shown Left = stays _ _ _ Same
window system editor shown Up = stays _ _ _ Same
window system editor shown Esc = stays _ _ _ Same
window system editor shown _ = stays _ _ _ Same

by_window : (system : List Row) (editor : Editor) (key : KeyStroke) (shown : Option Window)
    → Steps editor.layout (option_map_or (λ w. press_window system editor w key) shown (press_plain system editor key))
by_window system editor key None = plain system editor key
by_window system editor key (Some shown) = window system editor shown key

-- what a key makes of the layout
pub press-layout : (system : List Row) (editor : Editor) (key : KeyStroke) → LayoutStep editor.layout (left_by (press system editor key)).layout
unfolding press
press-layout system editor key = (by_window system editor key editor.window).step
