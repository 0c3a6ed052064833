-- The entries so far, and those to come, are all.
use Rattle.std.proofs.Common.{◌≡◌, ◌++◌, drop}
use Rattle.chew_phrasing.specs.Table.{all_behind}
use Rattle.chew_phrasing.proofs.entry.all_behind.Given as goal

abbrev pub invariant-loop-place : goal.invariant-loop-place
invariant-loop-place l = l.all.items ++ all_behind l.len l.weight l.place (drop l.place l.entries) ≡ all_behind l.len l.weight 0 l.entries
