-- The grid has the pieces of the rules, and the best by it is theirs.
use Rattle.std.proofs.Common.{length, ap, ◌∙◌}
use Rattle.std.proofs.lemmas.Result.{IfOk-weaker}
use Rattle.chew_phrasing.proofs.GridPieces.{best_by_rules, rules_give_pieces, rules_possible}
use Rattle.chew_phrasing.proofs.segment.best.Goals as goal

pub best_in-requires-clause-pieces : goal.best_in-requires-clause-pieces
best_in-requires-clause-pieces c =
    rules_give_pieces c.args.rows.now c.args.breaks.now c.args.choices.now (length c.args.run.now) c.in_ok-grid.grid c.requires.possible c.in_ok-grid.ensures.short
    (c.in_ok-grid.ensures.cells ∙ ap (λ l. length l) c.list.ensures.value) c.in_ok-grid.ensures.grid

pub best_in-requires-clause-possible : goal.best_in-requires-clause-possible
best_in-requires-clause-possible c =
    rules_possible c.args.rows.now c.args.breaks.now c.args.choices.now (length c.args.run.now) c.in_ok-grid.grid c.requires.possible c.in_ok-grid.ensures.short
    (c.in_ok-grid.ensures.cells ∙ ap (λ l. length l) c.list.ensures.value) c.in_ok-grid.ensures.grid

pub returns : goal.returns
returns c =
    IfOk-weaker c.best_in.result _ _
    (λ pieces best. best_by_rules c.args.rows.now c.args.breaks.now c.args.choices.now (length c.args.run.now) c.in_ok-grid.grid c.requires.possible c.in_ok-grid.ensures.short
    (c.in_ok-grid.ensures.cells ∙ ap (λ l. length l) c.list.ensures.value) c.in_ok-grid.ensures.grid pieces.items best)
    c.best_in.ensures
