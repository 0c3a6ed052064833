-- The turn of a key.
use Rattle.std.specs.Prelude.{◌≡◌, ◌≤◌, ◌<◌, List, ◌++◌, length, take, nat_le, is_some, Some, None}
use Rattle.std.proofs.Common.{refl, ap₂, subst, sym, ◌∙◌, arith, length-append}
use Rattle.std.proofs.lemmas.List.{take-append-le}
use Rattle.std.proofs.lemmas.Bool.Decides.{nat_tests}
use Rattle.chew_spec_syllable.specs.Row.{Row}
use Rattle.chew_spec_dictionary.specs.Call.{Reply}
use Rattle.chew_spec_layout.specs.Layout.{Layout, cleared}
use Rattle.chew_spec_text.specs.KeyStroke.{KeyStroke}
use Rattle.chew_spec_text.specs.Line.{Line}
use Rattle.chew_spec_editor.specs.Editor.{Editor, line_of}
use Rattle.chew_spec_editor.specs.Finish.{finish}
use Rattle.chew_spec_editor.specs.Keys.{calls_asked, press}
use Rattle.chew_spec_editor.specs.Pending.{Pending, calls_of}
use Rattle.chew_spec_editor.specs.Press.{Pressed, Done, Ask}
use Rattle.chew_spec_editor.specs.Talk.{Turn, turn_after, turn_of}
use Rattle.chew_spec_editor.proofs.Feeding.{cleared-cleared, cleared-feed}
use Rattle.chew_spec_editor.proofs.Layouts.{LayoutStep, Same, Fed, Cleared, left_by, press-layout}
use Rattle.chew_spec_editor.proofs.Lines.{press-line}

-- a turn makes the calls that the pressed key asks
turn_after-calls : (system : List Row) (pressed : Pressed) (replies : List Reply) (turn : Turn)
    → turn_after system pressed replies ≡ Some turn → turn.calls ≡ calls_asked pressed
turn_after-calls system (Done editor line) replies turn h = cc
turn_after-calls system (Ask pending) replies turn h = grind arith

pub turn_of-calls : (system : List Row) (editor : Editor) (key : KeyStroke) (replies : List Reply) (turn : Turn)
    → turn_of system editor key replies ≡ Some turn → turn.calls ≡ calls_asked (press system editor key)
turn_of-calls system editor key replies turn h = turn_after-calls system (press system editor key) replies turn h

-- there is a turn exactly where there are as many replies as calls, at least
turn_after-enough : (system : List Row) (pressed : Pressed) (replies : List Reply) (turn : Turn)
    → turn_after system pressed replies ≡ Some turn → length (calls_asked pressed) ≤ length replies
turn_after-enough system (Done editor line) replies turn h = omega arith
turn_after-enough system (Ask pending) replies turn h = grind (arith, nat_tests)

pub turn_of-enough : (system : List Row) (editor : Editor) (key : KeyStroke) (replies : List Reply) (turn : Turn)
    → turn_of system editor key replies ≡ Some turn → length turn.calls ≤ length replies
turn_of-enough system editor key replies turn h =
    let enough = turn_after-enough system (press system editor key) replies turn h in
    rw (turn_of-calls system editor key replies turn h) enough

-- further replies change no turn
turn_after-more : (system : List Row) (pressed : Pressed) (replies more : List Reply) (turn : Turn)
    → turn_after system pressed replies ≡ Some turn → turn_after system pressed (replies ++ more) ≡ Some turn
turn_after-more system (Done editor line) replies more turn h = h
turn_after-more system (Ask pending) replies more turn h =
    let enough = turn_after-enough system (Ask pending) replies turn h in
    let same = take-append-le (length (calls_of pending)) replies more enough in
    let longer = length-append replies more in
    grind (arith, nat_tests)

pub turn_of-more : (system : List Row) (editor : Editor) (key : KeyStroke) (replies more : List Reply) (turn : Turn)
    → turn_of system editor key replies ≡ Some turn → turn_of system editor key (replies ++ more) ≡ Some turn
turn_of-more system editor key replies more turn h = turn_after-more system (press system editor key) replies more turn h

-- there is no turn only where there are fewer replies than calls
turn_after-few : (system : List Row) (pressed : Pressed) (replies : List Reply)
    → turn_after system pressed replies ≡ None → length replies < length (calls_asked pressed)
turn_after-few system (Done editor line) replies h = cc
turn_after-few system (Ask pending) replies h = grind (arith, nat_tests)

pub turn_of-few : (system : List Row) (editor : Editor) (key : KeyStroke) (replies : List Reply)
    → turn_of system editor key replies ≡ None → length replies < length (calls_asked (press system editor key))
turn_of-few system editor key replies h = turn_after-few system (press system editor key) replies h

turn_after-there : (system : List Row) (pressed : Pressed) (replies : List Reply)
    → is_some (turn_after system pressed replies) ≡ nat_le (length (calls_asked pressed)) (length replies)
turn_after-there system (Done editor line) replies = grind (arith, nat_tests)
turn_after-there system (Ask pending) replies = grind (arith, nat_tests)

pub turn_of-there : (system : List Row) (editor : Editor) (key : KeyStroke) (replies : List Reply)
    → is_some (turn_of system editor key replies) ≡ nat_le (length (calls_asked (press system editor key))) (length replies)
turn_of-there system editor key replies = turn_after-there system (press system editor key) replies

-- the line of a turn shows the editor that the key leaves
turn_after-line : (system : List Row) (pressed : Pressed) (replies : List Reply) (turn : Turn)
    → ((editor : Editor) (line : Line) → pressed ≡ Done editor line → line ≡ line_of editor line.commit line.note)
    → turn_after system pressed replies ≡ Some turn → turn.line ≡ line_of turn.editor turn.line.commit turn.line.note
unfolding finish line_of
turn_after-line system (Done editor line) replies turn done h =
    let shown = done editor line refl in
    let same : line ≡ turn.line = cc in
    let left : editor ≡ turn.editor = cc in
    sym same ∙ shown ∙ ap₂ (λ e (l : Line). line_of e l.commit l.note) left same
turn_after-line system (Ask pending) replies turn done h =
    let heard = take (length (calls_of pending)) replies in
    let same : (finish system pending heard).line ≡ turn.line = grind arith in
    let left : (finish system pending heard).editor ≡ turn.editor = grind arith in
    sym same ∙ ap₂ (λ e (l : Line). line_of e l.commit l.note) left same

pub turn_of-line : (system : List Row) (editor : Editor) (key : KeyStroke) (replies : List Reply) (turn : Turn)
    → turn_of system editor key replies ≡ Some turn → turn.line ≡ line_of turn.editor turn.line.commit turn.line.note
turn_of-line system editor key replies turn h =
    turn_after-line system (press system editor key) replies turn
    (λ after line e. press-line system editor after key line e) h

-- the layout of a turn keeps its kind
turn_after-kind : (system : List Row) (layout : Layout) (pressed : Pressed) (replies : List Reply) (turn : Turn)
    → ((editor : Editor) (line : Line) → pressed ≡ Done editor line → cleared editor.layout ≡ layout)
    → ((pending : Pending) → pressed ≡ Ask pending → cleared pending.editor.layout ≡ layout)
    → turn_after system pressed replies ≡ Some turn → cleared turn.editor.layout ≡ layout
unfolding finish
turn_after-kind system layout (Done editor line) replies turn done asked h =
    let left : editor ≡ turn.editor = cc in subst (λ e. cleared e.layout ≡ layout) left (done editor line refl)
turn_after-kind system layout (Ask pending) replies turn done asked h =
    let left : (finish system pending (take (length (calls_of pending)) replies)).editor ≡ turn.editor = grind arith in
    subst (λ e. cleared e.layout ≡ layout) left (asked pending refl)

-- fed and cleared, a layout keeps its kind
step-kind : (before after : Layout) → LayoutStep before after → cleared after ≡ cleared before
step-kind before after Same = refl
step-kind before after (Fed byte) = cleared-feed before byte
step-kind before after Cleared = cleared-cleared before

pub turn_of-kind : (system : List Row) (editor : Editor) (key : KeyStroke) (replies : List Reply) (turn : Turn)
    → turn_of system editor key replies ≡ Some turn → cleared turn.editor.layout ≡ cleared editor.layout
turn_of-kind system editor key replies turn h =
    let kept = step-kind editor.layout (left_by (press system editor key)).layout (press-layout system editor key) in
    turn_after-kind system (cleared editor.layout) (press system editor key) replies turn
    (λ after line e. subst (λ p. cleared (left_by p).layout ≡ cleared editor.layout) e kept)
    (λ pending e. subst (λ p. cleared (left_by p).layout ≡ cleared editor.layout) e kept) h
