-- The best pieces begin in their run, whose places are small.
use Rattle.std.proofs.Common.{◌+◌, ◌≤◌, All, ap, ap₂, length, subst, sym, ◌∙◌}
use Rattle.chew_spec_phrasing.specs.Best.{best_pieces}
use Rattle.chew_spec_phrasing.specs.CombinedRows.{combined_hits}
use Rattle.chew_spec_preedit.specs.PlacedRun.{PlacedRun}
use Rattle.chew_editor.proofs.Placing.{best-fit}
use Rattle.chew_editor.proofs.phrasing.phrased_anew.Goals as goal

pub renewed-requires : goal.renewed-requires
renewed-requires g c =
    let system = g.L.Lexicon.rows c.args.system.now in
    let run = c.args.run.now in
    let hits = c.args.hits.now in
    subst (All (λ piece. run.start + piece.start ≤ 255))
    (sym (c.deref.ensures.value ∙ (c.in_ok-best.ensures
    ∙ (ap (λ (r : PlacedRun). best_pieces (combined_hits system r.codes hits) c.as_slice.result.now c.as_slice-2.result.now (length r.codes)) c.run.view_is
    ∙ ap₂ (λ breaks choices. best_pieces (combined_hits system run.codes hits) breaks choices (length run.codes))
    (c.as_slice.ensures.value ∙ c.breaks_in-breaks.ensures) (c.as_slice-2.ensures.value ∙ c.choices_in-choices.ensures)))))
    (best-fit system c.args.preedit.now run hits c.requires)
