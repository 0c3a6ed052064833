-- The orders behind the piece of this length, where there is one, and those that are there.
use Rattle.std.proofs.Common.{◌≤◌, sym, ap, ◌∙◌, subst, arith}
use Rattle.std.proofs.lemmas.Result.{IfOk-weaker}
use Rattle.chew_spec_phrasing.specs.Usable.{Piece}
use Rattle.chew_phrasing.specs.Grid.{piece_in}
use Rattle.chew_phrasing.specs.Table.{IsPart}
use Rattle.chew_phrasing.proofs.Lengthening.{both_made, longer_than, none_made, part_made, small_level}
use Rattle.chew_phrasing.proofs.level.with_length.Goals as goal

pub all_behind-requires-clause-small : goal.all_behind-requires-clause-small
all_behind-requires-clause-small c =
    small_level (piece_in c.args.grid.now) c.requires.pieces c.args.levels.now c.args.grid.now.cells c.args.left c.args.len c.requires.some c.requires.within c.requires.inside (omega arith)
    c.requires.levels c.requires.table c.index-levels-left.result c.entries-rest.result.now c.index-levels-left.is c.entries-rest.ensures

pub merge-requires : goal.merge-requires
merge-requires c = record {
  longer = λ mine yours i k.
      let few : c.args.grid.now.cells ≤ 39 = omega arith in
      let part = part_made (piece_in c.args.grid.now) c.requires.pieces c.args.levels.now c.args.grid.now.cells c.args.left c.args.len c.requires.some c.requires.within c.requires.inside few
      c.requires.levels c.requires.table c.cells.result c.weight_of.result c.piece.inside.freq c.in-Some.piece.now c.index-levels-left.result c.entries-rest.result.now c.deref-in-Some.result.now
      c.cells.ensures.value c.in-Some.ensures (ap (λ (p : Piece). p.freq) c.piece.view_is) c.weight_of.ensures.value c.weight_of.ensures.small c.index-levels-left.is c.entries-rest.ensures
      (c.deref-in-Some.ensures.value ∙ c.in_ok-part-in-Some.ensures) in
      longer_than (piece_in c.args.grid.now) c.requires.pieces c.args.levels.now c.args.grid.now.cells c.args.left c.args.len c.requires.some c.requires.within c.requires.inside few
      c.requires.levels c.requires.table c.deref.result.now c.deref-in-Some.result.now mine yours
      (subst (IsPart (piece_in c.args.grid.now) c.args.levels.now c.args.grid.now.cells c.args.left c.args.len) (sym c.deref.ensures.value) c.requires.longer) part i k;
}

pub returns-in_ok-part-in-Some : goal.returns-in_ok-part-in-Some
returns-in_ok-part-in-Some c =
    let few : c.args.grid.now.cells ≤ 39 = omega arith in
    let part = part_made (piece_in c.args.grid.now) c.requires.pieces c.args.levels.now c.args.grid.now.cells c.args.left c.args.len c.requires.some c.requires.within c.requires.inside few
    c.requires.levels c.requires.table c.cells.result c.weight_of.result c.piece.inside.freq c.in-Some.piece.now c.index-levels-left.result c.entries-rest.result.now c.deref-in-Some.result.now
    c.cells.ensures.value c.in-Some.ensures (ap (λ (p : Piece). p.freq) c.piece.view_is) c.weight_of.ensures.value c.weight_of.ensures.small c.index-levels-left.is c.entries-rest.ensures
    (c.deref-in-Some.ensures.value ∙ c.in_ok-part-in-Some.ensures) in
    IfOk-weaker c.merge.result _ _
    (λ all m. both_made (piece_in c.args.grid.now) c.requires.pieces c.args.levels.now c.args.grid.now.cells c.args.left c.args.len c.requires.some c.requires.within c.requires.inside few
    c.requires.levels c.requires.table c.deref.result.now c.deref-in-Some.result.now all.items
    (subst (IsPart (piece_in c.args.grid.now) c.args.levels.now c.args.grid.now.cells c.args.left c.args.len) (sym c.deref.ensures.value) c.requires.longer) part m)
    c.merge.ensures

pub returns-in-None : goal.returns-in-None
returns-in-None c =
    none_made (piece_in c.args.grid.now) c.requires.pieces c.args.levels.now c.args.grid.now.cells c.args.left c.args.len c.requires.some c.requires.within c.requires.inside (omega arith)
    c.requires.levels c.requires.table c.cells.result c.args.entries.items c.cells.ensures.value c.in-None.ensures c.requires.longer
