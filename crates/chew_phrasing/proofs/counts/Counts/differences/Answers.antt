-- One length more.
use Rattle.std.proofs.Common.{◌≡◌, ◌≤◌, length, ap, ◌∙◌, arith}
use Rattle.chew_spec_phrasing.specs.Score.{difference}
use Rattle.chew_phrasing.proofs.Counting.{product_within, sum_over_more}
use Rattle.chew_phrasing.proofs.counts.Counts.differences.Goals as goal

pub overflow_add-sum : goal.overflow_add-sum
overflow_add-sum c =
    let count : c.from.result ≤ 255 = omega (arith, c.type_inv.count-items c.loop-place.place) in
    let eleven : length c.as_slice-count-items.result.now ≡ 11 = ap (λ l. length l) c.as_slice-count-items.ensures ∙ c.self.invariant in
    let value : c.abs_diff.result ≤ 11 = omega arith in
    let most = product_within c.from.result c.abs_diff.result 255 11 count value in
    omega arith

pub loop-place-preserved : goal.loop-place-preserved
loop-place-preserved c =
    let count : c.from.result ≤ 255 = omega (arith, c.type_inv.count-items c.loop-place.place) in
    let eleven : length c.as_slice-count-items.result.now ≡ 11 = ap (λ l. length l) c.as_slice-count-items.ensures ∙ c.self.invariant in
    let value : c.abs_diff.result ≤ 11 = omega arith in
    let most = product_within c.from.result c.abs_diff.result 255 11 count value in
    record {
      same = sum_over_more (difference c.args.len) c.as_slice-count-items.result.now c.loop-place.place c.loop-place.sum c.from.result c.abs_diff.result _
          c.loop-place-test.true c.from.ensures (omega arith) c.loop-place.invariant.same;
      small = omega arith;
    }
