-- What a key leaves is an editor, or a pending one.
use Rattle.std.proofs.Common.{ap, subst, sym, ◌∙◌}
use Rattle.chew_spec_editor.specs.Editor.{Editor}
use Rattle.chew_spec_editor.specs.Invariant.{HasSingles}
use Rattle.chew_spec_editor.proofs.Asking.{user-calls}
use Rattle.chew_spec_editor.proofs.Keeping.{is_editor-done, is_pending-ask}
use Rattle.chew_spec_editor.proofs.Singles.{HasSingles-ask, HasSingles-done}
use Rattle.chew_script.specs.Keys.{key_of}
use Rattle.chew_editor.specs.Outcome.{outcome_of}
use Rattle.chew_editor.specs.State.{state_of}
use Rattle.chew_editor.proofs.pressing.press.Goals as goal

pub invariant_of-result : goal.invariant_of-result
invariant_of-result g c =
    is_editor-done (g.L.Lexicon.rows c.args.system.now) (state_of c.editor.inside.state) (state_of c.in-Done.state) (key_of c.args.key) _
    c.editor.invariant c.requires (sym c.in-Ok.ensures.ok ∙ ap outcome_of c.in-Done.is)

pub invariant_of-result-in-Ask : goal.invariant_of-result-in-Ask
invariant_of-result-in-Ask g c =
    let system = g.L.Lexicon.rows c.args.system.now in
    let editor = state_of c.editor.inside.state in
    let asks = sym c.in-Ok.ensures.ok ∙ ap outcome_of c.in-Ask.is in (
      is_pending-ask system editor (key_of c.args.key) c.in-Ask.asked c.editor.invariant c.requires asks,
      user-calls system editor (key_of c.args.key) c.in-Ask.asked c.all_are_rows.ensures c.editor.invariant c.requires asks,
    )

pub returns-in-Done-clause-singles : goal.returns-in-Done-clause-singles
returns-in-Done-clause-singles g c singles =
    let system = g.L.Lexicon.rows c.args.system.now in
    HasSingles-done system (state_of c.editor.inside.state) (state_of c.in-Done.state) (key_of c.args.key) _
    (subst (λ (editor : Editor). HasSingles system editor.buffer.cells) (sym c.editor.view_is) singles)
    (sym c.in-Ok.ensures.ok ∙ ap outcome_of c.in-Done.is)

pub returns-in-Ask-clause-singles : goal.returns-in-Ask-clause-singles
returns-in-Ask-clause-singles g c singles =
    let system = g.L.Lexicon.rows c.args.system.now in
    HasSingles-ask system (state_of c.editor.inside.state) (key_of c.args.key) c.in-Ask.asked
    (subst (λ (editor : Editor). HasSingles system editor.buffer.cells) (sym c.editor.view_is) singles)
    (sym c.in-Ok.ensures.ok ∙ ap outcome_of c.in-Ask.is)
