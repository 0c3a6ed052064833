-- What each key does, with a window and without.
use Rattle.std.specs.Prelude.{ℕ, List, [], length, position, ◌==◌, option_and_then, Some, None, if◌then◌else◌}
use Rattle.std.specs.Option.{option_map_or}
use Rattle.chew_spec_syllable.specs.Row.{Row}
use Rattle.chew_spec_layout.specs.Layout.{holds}
use Rattle.chew_spec_dictionary.specs.Call.{Call}
use Rattle.chew_spec_preedit.specs.Edit.{chosen}
use Rattle.chew_spec_preedit.specs.Window.{Window, next_page, page_before, picked, shorter}
use Rattle.chew_spec_text.specs.KeyStroke.{KeyStroke, Char, Enter, Backspace, Delete, Left, Right, Home, End, Up, Down, PageUp, PageDown, Tab, Esc, Add, Forget, Hide}
use Rattle.chew_spec_editor.specs.Editor.{Editor}
use Rattle.chew_spec_editor.specs.Pending.{calls_of}
use Rattle.chew_spec_editor.specs.PhraseKeys.{press_add, press_forget, press_hide}
use Rattle.chew_spec_editor.specs.Press.{Pressed, Done, Ask, bell, edit, go_to, press_backspace, press_char, press_delete, press_down, press_enter, press_esc, press_left, press_right, press_tab, quiet}

-- keys that wait until the layout holds nothing
unfoldable pub press_free : List Row → Editor → KeyStroke → Pressed
press_free system editor Enter = press_enter system editor
press_free system editor Delete = press_delete system editor
press_free system editor Left = press_left editor
press_free system editor Right = press_right editor
press_free system editor Home = go_to editor 0
press_free system editor End = go_to editor (length editor.buffer.cells)
press_free system editor Tab = press_tab system editor
press_free system editor (Add cells) = press_add system editor cells
press_free system editor (Forget cells) = press_forget system editor cells
press_free system editor (Hide cells) = press_hide system editor cells
press_free system editor Down = press_down editor
press_free system editor _ = bell editor

-- a key while no window is open: while the layout holds something, every key but a character, Backspace and Esc is a bell
unfoldable pub press_plain : List Row → Editor → KeyStroke → Pressed
press_plain system editor (Char byte) = press_char system editor byte
press_plain system editor Backspace = press_backspace system editor
press_plain system editor Esc = press_esc system editor
press_plain system editor key = if holds editor.layout then bell editor else press_free system editor key

-- the window as it is now, or none
abbrev pub with_window : Editor → Window → Pressed
with_window editor window = quiet (record editor { window = Some window })

-- a selection key picks a candidate of the page: it becomes a choice, and the window closes
unfoldable pub press_selection : List Row → Editor → Window → ℕ → Pressed
press_selection system editor window byte =
    option_map_or (λ choice. edit system editor (chosen choice editor.buffer))
    (option_and_then (picked window) (position (λ key. key == byte) editor.settings.selection)) (bell editor)

-- a key while a window is open; those that aren't named here ring
unfoldable pub press_window : List Row → Editor → Window → KeyStroke → Pressed
press_window system editor window (Char byte) = press_selection system editor window byte
press_window system editor window Down = with_window editor (shorter window)
press_window system editor window PageDown = with_window editor (next_page window)
press_window system editor window Right = with_window editor (next_page window)
press_window system editor window PageUp = with_window editor (page_before window)
press_window system editor window Left = with_window editor (page_before window)
press_window system editor window Up = quiet (record editor { window = None })
press_window system editor window Esc = quiet (record editor { window = None })
press_window system editor window _ = bell editor

-- what a key does
unfoldable pub press : List Row → Editor → KeyStroke → Pressed
press system editor key = option_map_or (λ window. press_window system editor window key) editor.window (press_plain system editor key)

-- the calls that a pressed key asks
abbrev pub calls_asked : Pressed → List Call
calls_asked (Done editor line) = []
calls_asked (Ask pending) = calls_of pending
