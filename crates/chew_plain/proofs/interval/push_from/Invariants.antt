-- The intervals so far, and those of the lengths to come, are all of this start.
use Rattle.std.proofs.Common.{◌≡◌, ◌+◌, ◌-◌, ◌++◌, map}
use Rattle.std.specs.List.{range_with_len}
use Rattle.chew_plain.specs.Look.{interval, intervals_from}
use Rattle.chew_plain.proofs.interval.push_from.Given as goal

abbrev pub invariant-loop-len : goal.invariant-loop-len
invariant-loop-len l = l.list.items ++ map (λ len. interval l.start len) (range_with_len l.len (l.limit + 1 - l.len)) ≡ l.initial.list.items ++ intervals_from l.count l.start
