-- The window is the one that is open.
use Rattle.std.proofs.Common.{◌≡◌, IfOk, subst, sym, ◌∙◌}
use Rattle.chew_spec_editor.specs.Press.{Pressed}
use Rattle.chew_script.specs.Keys.{key_of}
use Rattle.chew_editor.specs.Outcome.{outcome_of}
use Rattle.chew_editor.specs.State.{state_of}
use Rattle.chew_editor.proofs.Picked.{press-open, window-over}
use Rattle.chew_editor.proofs.keys.press_key.Goals as goal

pub press_window-requires : goal.press_window-requires
press_window-requires g c =
    window-over (state_of c.args.state) c.in-Some.window c.requires.editor (sym c.in-Ok.ensures ∙ c.in-Some.is)

pub returns-in-Some-clause-ok : goal.returns-in-Some-clause-ok
returns-in-Some-clause-ok g c =
    let system = g.L.Lexicon.rows c.args.system.now in
    subst (λ (p : Pressed). IfOk c.press_window.result (λ outcome. outcome_of outcome ≡ p))
    (sym (press-open system (state_of c.args.state) c.in-Some.window (key_of c.args.key) (sym c.in-Ok.ensures ∙ c.in-Some.is))) (c.press_window.ensures.ok system)
