-- A character that the layout doesn't take rings.
use Rattle.std.specs.Prelude.{◌≡◌, ℕ, true, List, None, if◌then◌else◌}
use Rattle.std.proofs.Common.{ap, ◌∙◌}
use Rattle.std.proofs.lemmas.Bool.{cond-true}
use Rattle.chew_spec_syllable.specs.Row.{Row}
use Rattle.chew_spec_layout.specs.Layout.{feed, holds}
use Rattle.chew_spec_layout.specs.Step.{Refused, NotMine}
use Rattle.chew_spec_layout.proofs.AnyLayout.{feed-refused, feed-not_mine}
use Rattle.chew_spec_preedit.specs.Cell.{Symbol}
use Rattle.chew_spec_text.specs.KeyStroke.{Char}
use Rattle.chew_spec_editor.specs.Editor.{Editor}
use Rattle.chew_spec_editor.specs.Keys.{press, press_plain}
use Rattle.chew_spec_editor.specs.Press.{after_step, bell, insert, press_char}
use Rattle.chew_spec_editor.proofs.Moves.{press-plain}

pub press-refused : (system : List Row) (editor : Editor) (byte : ℕ) → editor.window ≡ None → (feed editor.layout byte).step ≡ Refused
    → press system editor (Char byte) ≡ bell editor
unfolding press_plain press_char after_step
press-refused system editor byte w e =
    press-plain system editor (Char byte) w
    ∙ (ap (after_step system (record editor { layout = (feed editor.layout byte).layout }) byte) e
    ∙ ap (λ layout. bell (record editor { layout = layout })) (feed-refused editor.layout byte e))

pub press-not_mine : (system : List Row) (editor : Editor) (byte : ℕ) → editor.window ≡ None → holds editor.layout ≡ true
    → (feed editor.layout byte).step ≡ NotMine → press system editor (Char byte) ≡ bell editor
unfolding press_plain press_char after_step
press-not_mine system editor byte w held e =
    press-plain system editor (Char byte) w
    ∙ (ap (after_step system (record editor { layout = (feed editor.layout byte).layout }) byte) e
    ∙ (ap (λ layout. after_step system (record editor { layout = layout }) byte NotMine) (feed-not_mine editor.layout byte e)
    ∙ cond-true (holds editor.layout) (bell editor) (insert system editor (Symbol byte)) held))
