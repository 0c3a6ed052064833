-- There are no more rows than rows of the base and marks.
use Rattle.std.proofs.Common.{arith}
use Rattle.chew_merge.proofs.Overlaying.{overlay_length}
use Rattle.chew_merge.proofs.new_base.room_for.Goals as goal

pub returns : goal.returns
returns c =
    let least = c.min.ensures in
    let rows = c.total.ensures.value in
    let marks = c.len.ensures.value in
    let few = c.requires.few in
    let all = overlay_length c.args.base.now c.args.layer.now in
    grind (arith, least, rows, marks, few, all)
