-- The window of an editor lies over its buffer, and what it picks may be chosen.
use Rattle.std.specs.Prelude.{◌≡◌, ℕ, true, nat_le, ◌==◌, List, Option, Some, None, option_and_then, position}
use Rattle.std.specs.Option.{option_map_or}
use Rattle.std.proofs.Common.{ap, subst}
use Rattle.std.proofs.lemmas.Bool.{and_parts}
use Rattle.chew_spec_syllable.specs.Phrase.{is_phrase}
use Rattle.chew_spec_syllable.specs.Row.{Row, greatest_freq}
use Rattle.chew_spec_phrasing.specs.Usable.{Choice}
use Rattle.chew_spec_preedit.specs.Buffer.{Buffer, is_choice_of, is_choosable}
use Rattle.chew_spec_preedit.specs.Edit.{chosen}
use Rattle.chew_spec_preedit.specs.Window.{Window, picked}
use Rattle.chew_spec_text.specs.KeyStroke.{KeyStroke}
use Rattle.chew_spec_editor.specs.Editor.{Editor}
use Rattle.chew_spec_editor.specs.Invariant.{is_editor, is_window_over}
use Rattle.chew_spec_editor.specs.Keys.{press, press_plain, press_selection, press_window}
use Rattle.chew_spec_editor.specs.Press.{bell, edit}
use Rattle.chew_spec_editor.proofs.Steady.{IsEditor-from}
use Rattle.chew_spec_editor.proofs.Windows.{picked-choice_at}

pub window-over : (editor : Editor) (window : Window) → is_editor editor ≡ true → editor.window ≡ Some window → is_window_over editor.buffer window ≡ true
window-over editor window e w =
    subst (λ (found : Option Window). option_map_or (is_window_over editor.buffer) found true ≡ true) w (IsEditor-from editor e).steady.window

pub choosable-picked : (buffer : Buffer) (window : Window) (at : Option ℕ) (choice : Choice) → is_window_over buffer window ≡ true
    → option_and_then (picked window) at ≡ Some choice → is_choosable buffer.cells buffer.breaks choice ≡ true
choosable-picked buffer window at choice e p =
    let is = subst (λ (found : Option Choice). option_map_or (is_choice_of buffer.cells buffer.breaks) found true ≡ true) p (picked-choice_at buffer window at e) in
    (and_parts (nat_le choice.freq greatest_freq) _ (and_parts (is_phrase choice.phrase) _ is).1).1

-- a selection key that picks something, and one that picks nothing
pub selection-picks : (system : List Row) (editor : Editor) (window : Window) (byte : ℕ) (choice : Choice)
    → option_and_then (picked window) (position (λ key. key == byte) editor.settings.selection) ≡ Some choice
    → press_selection system editor window byte ≡ edit system editor (chosen choice editor.buffer)
unfolding press_selection
selection-picks system editor window byte choice e =
    ap (λ (found : Option Choice). option_map_or (λ c. edit system editor (chosen c editor.buffer)) found (bell editor)) e

pub selection-rings : (system : List Row) (editor : Editor) (window : Window) (byte : ℕ)
    → option_and_then (picked window) (position (λ key. key == byte) editor.settings.selection) ≡ None
    → press_selection system editor window byte ≡ bell editor
unfolding press_selection
selection-rings system editor window byte e =
    ap (λ (found : Option Choice). option_map_or (λ c. edit system editor (chosen c editor.buffer)) found (bell editor)) e

-- a key while a window is open
pub press-open : (system : List Row) (editor : Editor) (window : Window) (key : KeyStroke) → editor.window ≡ Some window
    → press system editor key ≡ press_window system editor window key
unfolding press
press-open system editor window key e =
    ap (λ (found : Option Window). option_map_or (λ w. press_window system editor w key) found (press_plain system editor key)) e
