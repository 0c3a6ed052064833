-- The grid has the pieces of the combined rows, and the best by it is theirs.
use Rattle.std.proofs.Common.{[], length, unwrap_or, sym, ap, ◌∙◌, subst}
use Rattle.std.proofs.lemmas.Result.{IfOk-weaker}
use Rattle.chew_spec_phrasing.specs.CombinedRows.{combined_hits}
use Rattle.chew_spec_phrasing.specs.Usable.{piece_at}
use Rattle.chew_phrasing.specs.Grid.{IsGrid}
use Rattle.chew_phrasing.proofs.GridPieces.{best_by_rules, rules_give_pieces, rules_possible}
use Rattle.chew_phrasing.proofs.segment.best_of_run.Goals as goal

pub best_in-requires-clause-pieces : goal.best_in-requires-clause-pieces
best_in-requires-clause-pieces g c =
    rules_give_pieces (combined_hits (g.L.Lexicon.rows c.args.system.now) c.args.run.now c.args.user.now) c.args.breaks.now c.args.choices.now (length c.args.run.now) c.in_ok-grid.grid c.requires.possible c.in_ok-grid.ensures.short
    (c.in_ok-grid.ensures.cells ∙ ap (λ l. length l) c.list.ensures.value)
    (subst (λ run. IsGrid (piece_at (combined_hits (g.L.Lexicon.rows c.args.system.now) run c.args.user.now) c.args.breaks.now c.args.choices.now) c.in_ok-grid.grid) c.list.ensures.value c.in_ok-grid.ensures.grid)

pub best_in-requires-clause-possible : goal.best_in-requires-clause-possible
best_in-requires-clause-possible g c =
    rules_possible (combined_hits (g.L.Lexicon.rows c.args.system.now) c.args.run.now c.args.user.now) c.args.breaks.now c.args.choices.now (length c.args.run.now) c.in_ok-grid.grid c.requires.possible c.in_ok-grid.ensures.short
    (c.in_ok-grid.ensures.cells ∙ ap (λ l. length l) c.list.ensures.value)
    (subst (λ run. IsGrid (piece_at (combined_hits (g.L.Lexicon.rows c.args.system.now) run c.args.user.now) c.args.breaks.now c.args.choices.now) c.in_ok-grid.grid) c.list.ensures.value c.in_ok-grid.ensures.grid)

pub returns : goal.returns
returns g c =
    IfOk-weaker c.best_in.result _ _
    (λ pieces best. sym (ap (λ o. unwrap_or o [])
    (best_by_rules (combined_hits (g.L.Lexicon.rows c.args.system.now) c.args.run.now c.args.user.now) c.args.breaks.now c.args.choices.now (length c.args.run.now) c.in_ok-grid.grid c.requires.possible c.in_ok-grid.ensures.short
    (c.in_ok-grid.ensures.cells ∙ ap (λ l. length l) c.list.ensures.value)
    (subst (λ run. IsGrid (piece_at (combined_hits (g.L.Lexicon.rows c.args.system.now) run c.args.user.now) c.args.breaks.now c.args.choices.now) c.in_ok-grid.grid) c.list.ensures.value c.in_ok-grid.ensures.grid)
    pieces.items best)))
    c.best_in.ensures
