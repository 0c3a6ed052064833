-- What a key does while no window is open: it changes the editor at once, or asks calls of the dictionary first.
use Rattle.std.specs.Prelude.{ℕ, ◌+◌, ◌-◌, ◌&&◌, List, [], ◌∷◌, length, take, drop, slice_get, encode_utf8_all, ◌==◌, nat_lt, Some, if◌then◌else◌}
use Rattle.std.specs.Option.{option_map_or}
use Rattle.chew_spec_syllable.specs.Row.{Row}
use Rattle.chew_spec_layout.specs.Step.{Step, Kept, Whole, Refused, Erased, NotMine}
use Rattle.chew_spec_layout.specs.Layout.{cleared, feed, holds}
use Rattle.chew_spec_layout.specs.Table.{backspace}
use Rattle.chew_spec_dictionary.specs.Call.{Call}
use Rattle.chew_spec_dictionary.specs.System.{has_single}
use Rattle.chew_spec_phrasing.specs.Usable.{phrase_len}
use Rattle.chew_spec_preedit.specs.Cell.{Cell, Sound, Symbol, has_sound}
use Rattle.chew_spec_preedit.specs.Buffer.{Buffer}
use Rattle.chew_spec_preedit.specs.Edit.{backspaced, break_toggled, can_break, deleted, emptied, inserted, is_full, moved_to, released}
use Rattle.chew_spec_text.specs.Line.{Line, Quiet, Bell}
use Rattle.chew_spec_editor.specs.Editor.{Editor, characters_of, line_of, shown_text}
use Rattle.chew_spec_editor.specs.Finish.{finish}
use Rattle.chew_spec_editor.specs.Learning.{key_at, learn_call, learns}
use Rattle.chew_spec_editor.specs.Pending.{Pending, calls_of, with_buffer}

pub data Pressed : Type 0 where
  Done : (editor : Editor) (line : Line) → Pressed
  Ask : (pending : Pending) → Pressed

-- the key changed the editor to this, and committed nothing
abbrev pub quiet : Editor → Pressed
quiet editor = Done editor (line_of editor [] Quiet)

-- the key can't do what it says
abbrev pub bell : Editor → Pressed
bell editor = Done editor (line_of editor [] Bell)

-- a key is done at once where it asks nothing
unfoldable pub asking : List Row → Pending → Pressed
asking system pending =
    if length (calls_of pending) == 0
    then Done (finish system pending []).editor (finish system pending []).line
    else Ask pending

-- the key leaves this buffer, and asks for all its runs
unfoldable pub edit : List Row → Editor → Buffer → Pressed
edit system editor buffer = asking system (with_buffer editor buffer)

-- how many cells lead the buffer: a symbol by itself, or the first piece that is shown
abbrev pub leading_cells : Editor → ℕ
leading_cells editor =
    if has_sound editor.buffer.cells 0 then option_map_or (λ piece. phrase_len piece.phrase) (slice_get editor.pieces 0) 1 else 1

-- the text of so many cells from a place on
unfoldable pub text_at : Editor → ℕ → ℕ → List ℕ
text_at editor place len = encode_utf8_all (take len (drop place (characters_of editor)))

-- the learn of so many cells from a place on, as they are shown
unfoldable pub learn_shown : List Row → Editor → ℕ → ℕ → Call
learn_shown system editor place len = learn_call system (key_at editor.buffer.cells place len) (text_at editor place len)

-- a leading piece that is released is learnt by itself; a symbol never is
unfoldable pub leading_learns : List Row → Editor → List Call
leading_learns system editor =
    if editor.settings.learn && has_sound editor.buffer.cells 0 then learn_shown system editor 0 (leading_cells editor) ∷ [] else []

-- a full buffer commits its leading cells before it takes a cell more
unfoldable pub releasing : List Row → Editor → Cell → Pending
releasing system editor cell = record (with_buffer editor (inserted (released (leading_cells editor) editor.buffer) cell)) {
  changes = leading_learns system editor;
  commit = text_at editor 0 (leading_cells editor);
}

-- a cell at the cursor
unfoldable pub insert : List Row → Editor → Cell → Pressed
insert system editor cell =
    if is_full editor.buffer then asking system (releasing system editor cell) else edit system editor (inserted editor.buffer cell)

-- what the layout's step does, where the layout is this then: a whole syllable is taken if the system has a row for it
-- alone, and a key that isn't the layout's is a symbol, if nothing is held
unfoldable pub after_step : List Row → Editor → ℕ → Step → Pressed
after_step system editor byte Kept = quiet editor
after_step system editor byte (Whole code) = if has_single system code then insert system editor (Sound code) else bell editor
after_step system editor byte Refused = bell editor
after_step system editor byte Erased = quiet editor
after_step system editor byte NotMine = if holds editor.layout then bell editor else insert system editor (Symbol byte)

-- a character goes to the layout
unfoldable pub press_char : List Row → Editor → ℕ → Pressed
press_char system editor byte =
    let turn = feed editor.layout byte in
    after_step system (record editor { layout = turn.layout }) byte turn.step

-- Enter commits all text, and learns it
unfoldable pub press_enter : List Row → Editor → Pressed
press_enter system editor =
    if length editor.buffer.cells == 0 then bell editor
    else asking system (record (with_buffer editor (emptied editor.buffer)) {
      changes = if editor.settings.learn then learns system editor.buffer.cells editor.buffer.breaks editor.pieces else [];
      commit = shown_text editor;
    })

-- Backspace erases in the layout, else the cell before the cursor
unfoldable pub press_backspace : List Row → Editor → Pressed
press_backspace system editor =
    if holds editor.layout then quiet (record editor { layout = (feed editor.layout backspace).layout })
    else if editor.buffer.cursor == 0 then bell editor
    else edit system editor (backspaced editor.buffer)

-- Delete takes the cell at the cursor
unfoldable pub press_delete : List Row → Editor → Pressed
press_delete system editor =
    if nat_lt editor.buffer.cursor (length editor.buffer.cells) then edit system editor (deleted editor.buffer) else bell editor

-- the cursor goes to a place
abbrev pub go_to : Editor → ℕ → Pressed
go_to editor place = quiet (record editor { buffer = moved_to place editor.buffer })

unfoldable pub press_left : Editor → Pressed
press_left editor = if editor.buffer.cursor == 0 then bell editor else go_to editor (editor.buffer.cursor - 1)

unfoldable pub press_right : Editor → Pressed
press_right editor =
    if nat_lt editor.buffer.cursor (length editor.buffer.cells) then go_to editor (editor.buffer.cursor + 1) else bell editor

-- Tab sets or clears a break at the cursor
unfoldable pub press_tab : List Row → Editor → Pressed
press_tab system editor = if can_break editor.buffer then edit system editor (break_toggled editor.buffer) else bell editor

-- the place of the candidates: the cursor, or the last cell where the cursor is at the end
abbrev pub window_place : Buffer → ℕ
window_place buffer = if nat_lt buffer.cursor (length buffer.cells) then buffer.cursor else buffer.cursor - 1

-- a look-up of the run at a place, by which it is phrased anew and the window opens there
abbrev pub opening : Editor → ℕ → Pending
opening editor place = record { editor = editor; changes = []; commit = []; note = Quiet; opens = Some place }

-- Down opens the candidates of a syllable
unfoldable pub press_down : Editor → Pressed
press_down editor =
    if has_sound editor.buffer.cells (window_place editor.buffer) then Ask (opening editor (window_place editor.buffer)) else bell editor

-- Esc clears the layout where it holds something, else the buffer where the settings say so
unfoldable pub press_esc : List Row → Editor → Pressed
press_esc system editor =
    if holds editor.layout then quiet (record editor { layout = cleared editor.layout })
    else if editor.settings.escape_clears && nat_lt 0 (length editor.buffer.cells) then edit system editor (emptied editor.buffer)
    else bell editor
