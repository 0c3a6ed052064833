-- One piece more: it goes on with the stretch, or begins one.
use Rattle.std.proofs.Common.{ap, map, sym, ◌∙◌}
use Rattle.std.proofs.lemmas.Result.{on_ok_weaker}
use Rattle.chew_plain.specs.Call.{call_of}
use Rattle.chew_preedit.specs.CellItem.{cell_of}
use Rattle.chew_editor.proofs.LearnSteps.{learns-end, learns-off, learns-on, span-end, span-off}
use Rattle.chew_editor.proofs.learning.push_stretches.Goals as goal
use Rattle.chew_editor.proofs.learning.push_stretches.Goals.{then-goes_on, else-goes_on+in_ok-push_stretch}

pub push_stretch-requires : goal.push_stretch-requires
push_stretch-requires g c =
    span-off (g.L.Lexicon.rows c.args.system.now) c.args.breaks.now (map cell_of c.args.cells.now) c.args.shown.now (map call_of c.loop-piece.calls.items) _
    c.loop-piece.stretch c.args.pieces.now c.loop-piece.piece-index c.piece-item.result c.loop-piece-test.true c.piece-item.is
    (sym c.goes_on.ensures ∙ c.if-goes_on.false) c.loop-piece.invariant

pub loop-piece-preserved : goal.loop-piece-preserved
loop-piece-preserved g c =
    let system = g.L.Lexicon.rows c.args.system.now in
    let cells = map cell_of c.args.cells.now in
    let had = map call_of c.loop-piece.calls.items in
    let now = map call_of c.if-goes_on.calls.items in
    elim c.if-goes_on.branch [
      | then-goes_on w ↦ learns-on system c.args.breaks.now cells c.args.shown.now had now _ c.loop-piece.stretch c.if-goes_on.stretch c.args.pieces.now
          c.loop-piece.piece-index c.piece-item.result c.loop-piece-test.true c.piece-item.is (sym c.goes_on.ensures ∙ w.if-goes_on.true)
          (w.stretch-is ∙ w.longer-stretch.ensures) (ap (λ calls. map call_of calls.items) w.calls-is) c.loop-piece.invariant
      | else-goes_on+in_ok-push_stretch w ↦ learns-off system c.args.breaks.now cells c.args.shown.now had now _ c.loop-piece.stretch c.if-goes_on.stretch c.args.pieces.now
          c.loop-piece.piece-index c.piece-item.result c.loop-piece-test.true c.piece-item.is (sym c.goes_on.ensures ∙ w.if-goes_on.false)
          (w.stretch-is ∙ w.of-stretch.ensures) (ap (λ calls. map call_of calls.items) w.calls-is ∙ w.in_ok-push_stretch.ensures) c.loop-piece.invariant
    ]

pub push_stretch-requires-2 : goal.push_stretch-requires-2
push_stretch-requires-2 g c =
    span-end (g.L.Lexicon.rows c.args.system.now) c.args.breaks.now (map cell_of c.args.cells.now) c.args.shown.now (map call_of c.loop-piece.calls.items) _
    c.loop-piece.stretch c.args.pieces.now c.loop-piece.piece-index c.loop-piece-test.false c.loop-piece.invariant

pub returns : goal.returns
returns g c =
    on_ok_weaker c.push_stretch-2.result
    (λ more. learns-end (g.L.Lexicon.rows c.args.system.now) c.args.breaks.now (map cell_of c.args.cells.now) c.args.shown.now (map call_of c.loop-piece.calls.items) _ _
    c.loop-piece.stretch c.args.pieces.now c.loop-piece.piece-index c.loop-piece-test.false more c.loop-piece.invariant)
    c.push_stretch-2.ensures
