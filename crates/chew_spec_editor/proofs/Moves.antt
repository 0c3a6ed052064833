-- What moves of the cursor do.
use Rattle.std.specs.Prelude.{◌≡◌, ◌+◌, ◌-◌, ◌<◌, Bool, true, false, List, length, ◌==◌, nat_lt, None, if◌then◌else◌}
use Rattle.std.specs.Option.{option_map_or}
use Rattle.std.proofs.Common.{refl, ap, ◌∙◌, arith}
use Rattle.std.proofs.lemmas.Bool.{cond-false, cond-true, eq-eqb, le-ltb, lt-ltb, ne_eqb}
use Rattle.chew_spec_syllable.specs.Row.{Row}
use Rattle.chew_spec_layout.specs.Layout.{holds}
use Rattle.chew_spec_text.specs.KeyStroke.{KeyStroke, Left, Right, Home, End}
use Rattle.chew_spec_editor.specs.Editor.{Editor}
use Rattle.chew_spec_editor.specs.Keys.{press, press_free, press_plain, press_window}
use Rattle.chew_spec_editor.specs.Press.{Pressed, bell, go_to, press_left, press_right}

-- without a window
pub press-plain : (system : List Row) (editor : Editor) (key : KeyStroke) → editor.window ≡ None → press system editor key ≡ press_plain system editor key
unfolding press
press-plain system editor key e = ap (λ w. option_map_or (λ o. press_window system editor o key) w (press_plain system editor key)) e

-- while nothing is held
pub press-free : (system : List Row) (editor : Editor) (pressed : Pressed) → holds editor.layout ≡ false → (if holds editor.layout then bell editor else pressed) ≡ pressed
press-free system editor pressed e = cond-false (holds editor.layout) (bell editor) pressed e

pub press-left : (system : List Row) (editor : Editor) → editor.window ≡ None → holds editor.layout ≡ false → 0 < editor.buffer.cursor
    → press system editor Left ≡ go_to editor (editor.buffer.cursor - 1)
unfolding press_plain press_free press_left
press-left system editor w h l =
    press-plain system editor Left w
    ∙ (press-free system editor (press_left editor) h ∙ cond-false (editor.buffer.cursor == 0) (bell editor) (go_to editor (editor.buffer.cursor - 1)) (ne_eqb editor.buffer.cursor 0 (λ e. omega arith)))

pub press-right : (system : List Row) (editor : Editor) → editor.window ≡ None → holds editor.layout ≡ false → editor.buffer.cursor < length editor.buffer.cells
    → press system editor Right ≡ go_to editor (editor.buffer.cursor + 1)
unfolding press_plain press_free press_right
press-right system editor w h l =
    press-plain system editor Right w
    ∙ (press-free system editor (press_right editor) h
    ∙ cond-true (nat_lt editor.buffer.cursor (length editor.buffer.cells)) (go_to editor (editor.buffer.cursor + 1)) (bell editor) (lt-ltb editor.buffer.cursor (length editor.buffer.cells) l))

pub press-home : (system : List Row) (editor : Editor) → editor.window ≡ None → holds editor.layout ≡ false → press system editor Home ≡ go_to editor 0
unfolding press_plain press_free
press-home system editor w h = press-plain system editor Home w ∙ press-free system editor (go_to editor 0) h

pub press-end : (system : List Row) (editor : Editor) → editor.window ≡ None → holds editor.layout ≡ false → press system editor End ≡ go_to editor (length editor.buffer.cells)
unfolding press_plain press_free
press-end system editor w h = press-plain system editor End w ∙ press-free system editor (go_to editor (length editor.buffer.cells)) h

-- both ways a bell
both-bells : (editor : Editor) (b : Bool) → (if b then bell editor else bell editor) ≡ bell editor
both-bells editor true = refl
both-bells editor false = refl

pub press-start : (system : List Row) (editor : Editor) → editor.window ≡ None → editor.buffer.cursor ≡ 0 → press system editor Left ≡ bell editor
unfolding press_plain press_free press_left
press-start system editor w e =
    press-plain system editor Left w
    ∙ (ap (λ p. if holds editor.layout then bell editor else p)
    (cond-true (editor.buffer.cursor == 0) (bell editor) (go_to editor (editor.buffer.cursor - 1)) (eq-eqb editor.buffer.cursor 0 e))
    ∙ both-bells editor (holds editor.layout))

pub press-last : (system : List Row) (editor : Editor) → editor.window ≡ None → editor.buffer.cursor ≡ length editor.buffer.cells → press system editor Right ≡ bell editor
unfolding press_plain press_free press_right
press-last system editor w e =
    press-plain system editor Right w
    ∙ (ap (λ p. if holds editor.layout then bell editor else p)
    (cond-false (nat_lt editor.buffer.cursor (length editor.buffer.cells)) (go_to editor (editor.buffer.cursor + 1)) (bell editor)
    (le-ltb editor.buffer.cursor (length editor.buffer.cells) (omega arith)))
    ∙ both-bells editor (holds editor.layout))
