-- A full buffer has room once it released what leads it.
use Rattle.std.proofs.Common.{◌≡◌, IfOk, ap, subst, ◌∙◌}
use Rattle.chew_spec_preedit.specs.Edit.{inserted, is_full, released}
use Rattle.chew_spec_editor.specs.Pending.{Pending}
use Rattle.chew_spec_editor.specs.Press.{asking}
use Rattle.chew_spec_editor.proofs.Steady.{IsEditor-from}
use Rattle.chew_layouts.specs.Layouts.{layout_of}
use Rattle.chew_preedit.specs.CellItem.{cell_of}
use Rattle.chew_editor.specs.Outcome.{outcome_of}
use Rattle.chew_editor.specs.State.{state_of}
use Rattle.chew_editor.proofs.Released.{released-asked, room-released}
use Rattle.chew_editor.proofs.inserting.release.Goals as goal

pub insert-requires-clause-room : goal.insert-requires-clause-room
insert-requires-clause-room g c =
    ap is_full (c.release.ensures ∙ ap (released c.leading_count.result) c.with_layout-typing.ensures.preedit)
    ∙ room-released c.args.state.typing.preedit c.leading_count.result (IsEditor-from (state_of c.args.state) c.requires.editor).steady.buffer
    c.leading_count.ensures.some c.leading_count.ensures.within

pub returns-in-Ok-clause-ok : goal.returns-in-Ok-clause-ok
returns-in-Ok-clause-ok g c =
    let system = g.L.Lexicon.rows c.args.system.now in
    let state = state_of c.args.state in
    let cell = cell_of c.args.item in
    let buffer = c.insert.ensures
    ∙ ap (λ b. inserted b cell) (c.release.ensures ∙ ap (released c.leading_count.result) c.with_layout-typing.ensures.preedit
    ∙ ap (λ n. released n state.buffer) c.leading_count.ensures.value) in
    subst (λ (p : Pending). IfOk c.asking.result (λ outcome. outcome_of outcome ≡ asking system p))
    (released-asked system state _ (layout_of c.args.layout) cell _ _ _ c.with_layout-typing.ensures.settings c.with_layout-typing.ensures.layout buffer
    c.in-Ok.ensures.calls c.in-Ok.ensures.commit c.in-Ok.ensures.note)
    (c.asking.ensures.ok system)
