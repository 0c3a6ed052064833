-- The scores decide, and then the lengths.
use Rattle.std.proofs.Common.{is_lt, nat_cmp, sym, refl, ap, ◌∙◌, subst}
use Rattle.std.specs.Cmp.Lexicographic.{slice_cmp}
use Rattle.chew_spec_phrasing.specs.Segmentation.{lengths}
use Rattle.chew_phrasing.specs.Grid.{piece_in}
use Rattle.chew_phrasing.specs.Table.{Leads}
use Rattle.chew_phrasing.proofs.Topping.{score_is, scored, scores_decide, unequal_decides}
use Rattle.chew_phrasing.proofs.ranking.is_beaten.Goals as goal

pub gain_of-requires-clause-some : goal.gain_of-requires-clause-some
gain_of-requires-clause-some c =
    (scored (piece_in c.args.grid.now) c.args.levels.now c.args.grid.now.cells c.requires.pieces c.args.best.now c.requires.best.order c.requires.some c.requires.best.stands).some

pub gain_of-requires-2-clause-some : goal.gain_of-requires-2-clause-some
gain_of-requires-2-clause-some c =
    (scored (piece_in c.args.grid.now) c.args.levels.now c.args.grid.now.cells c.requires.pieces c.args.other.now c.requires.other.order c.requires.some c.requires.other.stands).some

pub returns-in-Equal : goal.returns-in-Equal
returns-in-Equal c = λ mine yours h i.
    let a = scored (piece_in c.args.grid.now) c.args.levels.now c.args.grid.now.cells c.requires.pieces c.args.best.now mine c.requires.some h in
    let b = scored (piece_in c.args.grid.now) c.args.levels.now c.args.grid.now.cells c.requires.pieces c.args.other.now yours c.requires.some i in
    c.is_lt.ensures
    ∙ ap is_lt (scores_decide mine yours _ _ _ c.lengths_order.result
    (score_is (piece_in c.args.grid.now) c.args.levels.now c.args.grid.now.cells c.cells-syllables.result c.gain_of.result c.loss_of.result c.args.best.now c.args.other.now mine yours
    c.cells-syllables.ensures.value c.gain_of.ensures.value c.loss_of.ensures.value a b)
    (score_is (piece_in c.args.grid.now) c.args.levels.now c.args.grid.now.cells c.cells-syllables.result c.gain_of-2.result c.loss_of-2.result c.args.other.now c.args.best.now yours mine
    c.cells-syllables.ensures.value c.gain_of-2.ensures.value c.loss_of-2.ensures.value b a)
    c.in-Equal.ensures
    (c.lengths_order.ensures mine yours
    (subst (λ k. Leads c.args.levels.now k c.args.best.now mine) (sym c.cells-syllables.ensures.value) h.leads)
    (subst (λ k. Leads c.args.levels.now k c.args.other.now yours) (sym c.cells-syllables.ensures.value) i.leads)))

pub returns-in_default : goal.returns-in_default
returns-in_default c = λ mine yours h i.
    let a = scored (piece_in c.args.grid.now) c.args.levels.now c.args.grid.now.cells c.requires.pieces c.args.best.now mine c.requires.some h in
    let b = scored (piece_in c.args.grid.now) c.args.levels.now c.args.grid.now.cells c.requires.pieces c.args.other.now yours c.requires.some i in
    c.is_lt-in_default.ensures
    ∙ ap is_lt (sym (unequal_decides c.cmp.result (slice_cmp nat_cmp (lengths mine) (lengths yours)) c.in_default.not-Equal)
    ∙ scores_decide mine yours _ _ c.cmp.result (slice_cmp nat_cmp (lengths mine) (lengths yours))
    (score_is (piece_in c.args.grid.now) c.args.levels.now c.args.grid.now.cells c.cells-syllables.result c.gain_of.result c.loss_of.result c.args.best.now c.args.other.now mine yours
    c.cells-syllables.ensures.value c.gain_of.ensures.value c.loss_of.ensures.value a b)
    (score_is (piece_in c.args.grid.now) c.args.levels.now c.args.grid.now.cells c.cells-syllables.result c.gain_of-2.result c.loss_of-2.result c.args.other.now c.args.best.now yours mine
    c.cells-syllables.ensures.value c.gain_of-2.ensures.value c.loss_of-2.ensures.value b a)
    c.cmp.ensures refl)
