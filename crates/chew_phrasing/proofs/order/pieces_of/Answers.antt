-- One piece more, until the run's end.
use Rattle.std.proofs.Common.{◌-◌, refl, ap, ap₂, ◌∙◌, arith}
use Rattle.chew_phrasing.specs.Grid.{piece_in}
use Rattle.chew_phrasing.specs.Table.{Entry}
use Rattle.chew_phrasing.proofs.Walking.{Remains-none, Step-of, some_is, step_taken}
use Rattle.chew_phrasing.proofs.order.pieces_of.Goals as goal

pub invariant_of-piece : goal.invariant_of-piece
invariant_of-piece c =
    let step = Step-of (piece_in c.args.grid.now) c.args.levels.now c.args.grid.now.cells c.loop-left.left c.loop-left.entry c.loop-left.pieces.items c.requires.order.0 c.loop-left-test.true c.loop-left.invariant.within
    (c.loop-left.invariant.remains c.requires.order.0 c.requires.order.1) in
    let within = step.goes_on.within in
    let len = c.from-len.ensures ∙ ap (λ (e : Entry). e.len) c.entry.view_is in
    omega arith

pub piece-requires : goal.piece-requires
piece-requires c =
    let step = Step-of (piece_in c.args.grid.now) c.args.levels.now c.args.grid.now.cells c.loop-left.left c.loop-left.entry c.loop-left.pieces.items c.requires.order.0 c.loop-left-test.true c.loop-left.invariant.within
    (c.loop-left.invariant.remains c.requires.order.0 c.requires.order.1) in
    let len = c.from-len.ensures ∙ ap (λ (e : Entry). e.len) c.entry.view_is in
    some_is (piece_in c.args.grid.now (record { start = c.cells.result - c.loop-left.left; len = c.from-len.result })) step.piece
    (ap₂ (λ a b. piece_in c.args.grid.now (record { start = a - c.loop-left.left; len = b })) c.cells.ensures.value len ∙ step.is_usable)

pub next-entry-requires : goal.next-entry-requires
next-entry-requires c =
    let step = Step-of (piece_in c.args.grid.now) c.args.levels.now c.args.grid.now.cells c.loop-left.left c.loop-left.entry c.loop-left.pieces.items c.requires.order.0 c.loop-left-test.true c.loop-left.invariant.within
    (c.loop-left.invariant.remains c.requires.order.0 c.requires.order.1) in
    record { next = step.next; goes_on = step.goes_on }

pub loop-left-preserved : goal.loop-left-preserved
loop-left-preserved c = record {
  within = let within = c.loop-left.invariant.within in omega arith;
  remains = λ order stands.
      let len = c.from-len.ensures ∙ ap (λ (e : Entry). e.len) c.entry.view_is in
      step_taken (piece_in c.args.grid.now) c.args.levels.now c.args.grid.now.cells c.loop-left.left (c.cells.result - c.loop-left.left) c.from-len.result (c.loop-left.left - c.from-len.result)
      c.loop-left.entry c.next-entry.result c.piece.result c.loop-left.pieces.items c.push.new.self.items order c.loop-left-test.true c.loop-left.invariant.within
      (ap (λ k. k - c.loop-left.left) c.cells.ensures.value) len c.piece.ensures c.next-entry.ensures refl c.in_ok-push.ensures.items (c.loop-left.invariant.remains order stands);
}

pub returns : goal.returns
returns c = λ order stands.
    Remains-none (piece_in c.args.grid.now) c.args.levels.now c.args.grid.now.cells c.loop-left.left c.loop-left.entry c.loop-left.pieces.items order (omega arith) (c.loop-left.invariant.remains order stands)
