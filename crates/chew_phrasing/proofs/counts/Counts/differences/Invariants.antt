-- The differences to the lengths so far, and to those to come, are all.
use Rattle.std.proofs.Common.{◌≡◌, ◌+◌, ◌≤◌, ◌*◌, suc, drop}
use Rattle.chew_spec_phrasing.specs.Score.{difference}
use Rattle.chew_phrasing.specs.Counts.{sum_over}
use Rattle.chew_phrasing.proofs.counts.Counts.differences.Given as goal

abbrev pub invariant-loop-place : goal.invariant-loop-place
invariant-loop-place l = record {
  same : l.sum + sum_over (difference l.len) (suc l.place) (drop l.place l.count-items) ≡ sum_over (difference l.len) 1 l.count-items;
  small : l.sum ≤ 2805 * l.place;
}
