-- The keys that add, forget and hide the phrase of so many cells from the cursor on.
use Rattle.std.specs.Prelude.{ℕ, ◌+◌, Bool, ◌&&◌, List, [], ◌∷◌, length, take, drop, nat_le, if◌then◌else◌}
use Rattle.std.specs.List.{list_all}
use Rattle.chew_spec_syllable.specs.Row.{Row}
use Rattle.chew_spec_dictionary.specs.Call.{Call}
use Rattle.chew_spec_dictionary.specs.Call as call
use Rattle.chew_spec_preedit.specs.Cell.{is_sound}
use Rattle.chew_spec_preedit.specs.Buffer.{Buffer}
use Rattle.chew_spec_text.specs.Line.{Note, Added, Forgot, Hidden}
use Rattle.chew_spec_editor.specs.Editor.{Editor}
use Rattle.chew_spec_editor.specs.Learning.{key_at}
use Rattle.chew_spec_editor.specs.Pending.{with_buffer}
use Rattle.chew_spec_editor.specs.Press.{Pressed, asking, bell, learn_shown, text_at}

-- so many cells from the cursor on are there, and all are syllables
abbrev pub are_sounds_ahead : Buffer → ℕ → Bool
are_sounds_ahead buffer len =
    nat_le (buffer.cursor + len) (length buffer.cells) && list_all is_sound (take len (drop buffer.cursor buffer.cells))

-- a key that changes the dictionary by one call about the cells from the cursor on, with this note if it succeeds
unfoldable pub press_about : List Row → Editor → ℕ → Call → Note → Pressed
press_about system editor len about note =
    if are_sounds_ahead editor.buffer len
    then asking system (record (with_buffer editor editor.buffer) { changes = about ∷ []; note = note })
    else bell editor

unfoldable pub press_add : List Row → Editor → ℕ → Pressed
press_add system editor len = press_about system editor len (learn_shown system editor editor.buffer.cursor len) Added

unfoldable pub press_forget : List Row → Editor → ℕ → Pressed
press_forget system editor len =
    press_about system editor len
    (call.Forget (key_at editor.buffer.cells editor.buffer.cursor len) (text_at editor editor.buffer.cursor len)) Forgot

unfoldable pub press_hide : List Row → Editor → ℕ → Pressed
press_hide system editor len =
    press_about system editor len
    (call.Hide (key_at editor.buffer.cells editor.buffer.cursor len) (text_at editor editor.buffer.cursor len)) Hidden
