-- The lists so far, and those of the lengths to come.
use Rattle.std.proofs.Common.{◌≡◌, ◌++◌}
use Rattle.chew_editor.specs.Lists.{lists_from}
use Rattle.chew_editor.proofs.candidates.lists_from.Given as goal

abbrev pub invariant-loop-len : goal.invariant-loop-len
invariant-loop-len l = l.lists.items ++ lists_from l.rows l.breaks l.place l.len ≡ lists_from l.rows l.breaks l.place l.longest

abbrev pub decreases-loop-len : goal.decreases-loop-len
decreases-loop-len l = l.len
