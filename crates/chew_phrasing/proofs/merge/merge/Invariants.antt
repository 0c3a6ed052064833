-- The entries of both so far are merged.
use Rattle.std.proofs.Common.{take, length, ◌+◌, ◌-◌, ◌≤◌}
use Rattle.chew_phrasing.specs.Merge.{IsMerged}
use Rattle.chew_phrasing.proofs.merge.merge.Given as goal

abbrev pub invariant-both : goal.invariant-both
invariant-both l = record {
  own_within : l.from_own ≤ length l.own;
  other_within : l.from_other ≤ length l.other;
  merged : IsMerged (take l.from_own l.own) (take l.from_other l.other) l.all.items;
}

abbrev pub decreases-both : goal.decreases-both
decreases-both l = (length l.own - l.from_own) + (length l.other - l.from_other)
