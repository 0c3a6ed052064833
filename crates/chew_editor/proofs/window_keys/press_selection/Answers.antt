-- What is picked may be chosen, and a key that picks nothing rings.
use Rattle.std.proofs.Common.{◌==◌, ◌≡◌, ℕ, List, IfOk, ap, position, subst, sym, ◌∙◌}
use Rattle.std.specs.Option.{option_and_then}
use Rattle.chew_spec_preedit.specs.Window.{picked}
use Rattle.chew_spec_editor.specs.Press.{Pressed}
use Rattle.chew_editor.specs.Outcome.{outcome_of}
use Rattle.chew_editor.specs.State.{state_of}
use Rattle.chew_editor.proofs.Picked.{choosable-picked, selection-picks, selection-rings}
use Rattle.chew_editor.proofs.window_keys.press_selection.Goals as goal

pub choose-requires-clause-choosable : goal.choose-requires-clause-choosable
choose-requires-clause-choosable c =
    choosable-picked c.args.state.typing.preedit c.args.window (position (λ key. key == c.args.byte) c.selection.result.now) c.in-Some.choice c.requires
    (sym c.pick_by.ensures.value ∙ c.in-Some.is)

pub returns-in-Some-clause-ok : goal.returns-in-Some-clause-ok
returns-in-Some-clause-ok c system =
    let found = ap (λ (keys : List ℕ). option_and_then (picked c.args.window) (position (λ key. key == c.args.byte) keys)) (sym c.selection.ensures)
    ∙ sym c.pick_by.ensures.value ∙ c.in-Some.is in
    subst (λ (p : Pressed). IfOk c.choose.result (λ outcome. outcome_of outcome ≡ p))
    (sym (selection-picks system (state_of c.args.state) c.args.window c.args.byte c.in-Some.choice found)) (c.choose.ensures.ok system)

pub returns-clause-ok : goal.returns-clause-ok
returns-clause-ok c system =
    let found = ap (λ (keys : List ℕ). option_and_then (picked c.args.window) (position (λ key. key == c.args.byte) keys)) (sym c.selection.ensures)
    ∙ sym c.pick_by.ensures.value ∙ c.in-None.is in
    subst (λ (p : Pressed). IfOk c.ring.result (λ outcome. outcome_of outcome ≡ p))
    (sym (selection-rings system (state_of c.args.state) c.args.window c.args.byte found)) c.ring.ensures.ok
