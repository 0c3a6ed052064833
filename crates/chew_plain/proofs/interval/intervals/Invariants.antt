-- The intervals so far, and those of the starts to come, are all.
use Rattle.std.proofs.Common.{◌≡◌, ◌-◌, ◌++◌, flat_map}
use Rattle.std.specs.List.{range_with_len}
use Rattle.chew_spec_dictionary.specs.Look.{intervals}
use Rattle.chew_plain.specs.Look.{intervals_from}
use Rattle.chew_plain.proofs.interval.intervals.Given as goal

abbrev pub invariant-loop-start : goal.invariant-loop-start
invariant-loop-start l = l.list.items ++ flat_map (intervals_from l.count) (range_with_len l.start (l.count - l.start)) ≡ intervals l.count
