-- A map under a layer has no more rows than both together.
use Rattle.std.proofs.Common.{arith}
use Rattle.chew_merge.proofs.Overlaying.{overlay_length}
use Rattle.chew_merge.proofs.tests.merged.Goals as goal

pub merge_layer-requires : goal.merge_layer-requires
merge_layer-requires c =
    let all = overlay_length c.args.base.now c.args.layer.now in
    let marks = c.len.ensures.value in
    let rows = c.total.ensures.value in
    let few_marks = c.if-len-gt4.false in
    let few_rows = c.if-total-gt4.false in
    record { few = omega (arith, all, marks, rows, few_marks, few_rows) }
