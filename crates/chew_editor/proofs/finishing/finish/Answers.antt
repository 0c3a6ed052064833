-- The pending editor's runs can be phrased, so that what is left is an editor.
use Rattle.std.proofs.Common.{◌≡◌, List, ap, map, subst, sym, true, ◌∙◌}
use Rattle.chew_spec_preedit.specs.Cell.{Cell}
use Rattle.chew_spec_editor.specs.Editor.{Editor}
use Rattle.chew_spec_editor.specs.Invariant.{HasSingles, is_editor}
use Rattle.chew_spec_editor.specs.Pending.{Pending}
use Rattle.chew_spec_editor.proofs.Finished.{is_editor-finish}
use Rattle.chew_plain.specs.Call.{reply_of}
use Rattle.chew_editor.proofs.FinishedState.{finished-cells, same-answers}
use Rattle.chew_editor.proofs.RunsAsked.{phrasable-asked, place-asked}
use Rattle.chew_editor.proofs.finishing.finish.Goals as goal

pub finished-requires-clause-runs : goal.finished-requires-clause-runs
finished-requires-clause-runs g c =
    let system = g.L.Lexicon.rows c.args.system.now in
    let asked = c.pending.inside.asked in
    phrasable-asked system asked (map reply_of c.as_slice.result.now) c.all_are_rows.ensures
    (subst (λ (p : Pending). HasSingles system p.editor.buffer.cells) (sym c.pending.view_is) c.requires.singles) c.pending.invariant.0
    (same-answers reply_of c.args.pending asked c.args.replies.items c.as_slice.result.now c.pending.view_is c.as_slice.ensures.value c.requires.answers)

pub finished-requires-clause-place : goal.finished-requires-clause-place
finished-requires-clause-place g c = place-asked c.pending.inside.asked c.pending.invariant.0

pub invariant_of-result : goal.invariant_of-result
invariant_of-result g c =
    let system = g.L.Lexicon.rows c.args.system.now in
    let asked = c.pending.inside.asked in
    subst (λ (e : Editor). is_editor e ≡ true) (sym c.in_ok-state.ensures.state)
    (is_editor-finish system asked (map reply_of c.as_slice.result.now) c.all_are_rows.ensures
    (subst (λ (p : Pending). HasSingles system p.editor.buffer.cells) (sym c.pending.view_is) c.requires.singles) c.pending.invariant.0
    (same-answers reply_of c.args.pending asked c.args.replies.items c.as_slice.result.now c.pending.view_is c.as_slice.ensures.value c.requires.answers))

pub returns-clause-singles : goal.returns-clause-singles
returns-clause-singles g c =
    let system = g.L.Lexicon.rows c.args.system.now in
    let asked = c.pending.inside.asked in
    subst (λ (cells : List Cell). HasSingles system cells)
    (sym (ap (λ (e : Editor). e.buffer.cells) c.in_ok-state.ensures.state
    ∙ ap (λ buffer. buffer.cells) (finished-cells system asked (map reply_of c.as_slice.result.now))))
    (subst (λ (p : Pending). HasSingles system p.editor.buffer.cells) (sym c.pending.view_is) c.requires.singles)
