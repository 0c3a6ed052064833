-- The pieces of the lengths so far.
use Rattle.std.proofs.Common.{◌≡◌, ◌≤◌, ◌*◌, sum, take}
use Rattle.chew_phrasing.proofs.counts.Counts.pieces.Given as goal

abbrev pub invariant-loop-count : goal.invariant-loop-count
invariant-loop-count l = record { sum_is : l.pieces ≡ sum (take l.count-index l.count-items); small : l.pieces ≤ 255 * l.count-index }
