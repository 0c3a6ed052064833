-- The rows rise as far as the loop has come.
use Rattle.std.proofs.Common.{◌≡◌, true, is_lt, arith}
use Rattle.chew_rows.specs.Pairs.{row_cmp}
use Rattle.chew_rows.proofs.Rising.{rising_all, rising_more}
use Rattle.chew_rows.proofs.apart.rise.Goals as goal

pub loop-place-preserved : goal.loop-place-preserved
loop-place-preserved c =
    let row = c.index-rows-place.result in
    let next = c.index-rows-place-in-loop-place.result in
    let less : is_lt (row_cmp row.now next.now) ≡ true = cc in
    rising_more c.args.rows.now c.loop-place.place row next (omega arith) (omega arith) c.index-rows-place.is c.index-rows-place-in-loop-place.is less c.loop-place.invariant

pub returns : goal.returns
returns c = λ t. rising_all c.args.rows.now c.loop-place.place c.loop-place-test.false c.loop-place.invariant
