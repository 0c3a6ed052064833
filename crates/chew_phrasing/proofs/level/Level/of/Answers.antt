-- One length more, until all are there.
use Rattle.std.proofs.Common.{◌≡◌, ◌-◌, ◌+◌, sym, arith, subst}
use Rattle.chew_phrasing.specs.Grid.{piece_in}
use Rattle.chew_phrasing.specs.Table.{IsPart}
use Rattle.chew_phrasing.proofs.Filling.{least_of, level_whole, part_none}
use Rattle.chew_phrasing.proofs.level.Level.of.Goals as goal

pub loop-shorter-init : goal.loop-shorter-init
loop-shorter-init c =
    subst (IsPart (piece_in c.args.grid.now) c.args.levels.now c.args.grid.now.cells c.args.left (c.min-most.result - 0)) (sym c.new-entries.ensures.items)
    (part_none (piece_in c.args.grid.now) c.requires.pieces c.args.levels.now c.args.grid.now.cells c.args.left (c.min-most.result - 0) (omega (arith, least_of 11 c.args.left)))

pub loop-shorter-preserved : goal.loop-shorter-preserved
loop-shorter-preserved c =
    let same : c.min-most.result - c.loop-shorter.shorter - 1 ≡ c.min-most.result - (c.loop-shorter.shorter + 1) = omega arith in
    subst (λ k. IsPart (piece_in c.args.grid.now) c.args.levels.now c.args.grid.now.cells c.args.left k c.in_ok-entries.entries.items) same c.in_ok-entries.ensures

pub returns : goal.returns
returns c =
    let done : c.min-most.result - c.loop-shorter.shorter ≡ 0 = omega arith in
    level_whole (piece_in c.args.grid.now) c.requires.pieces c.args.levels.now c.args.grid.now.cells c.args.left c.loop-shorter.entries.items (omega arith)
    (subst (λ k. IsPart (piece_in c.args.grid.now) c.args.levels.now c.args.grid.now.cells c.args.left k c.loop-shorter.entries.items) done c.loop-shorter.invariant)
