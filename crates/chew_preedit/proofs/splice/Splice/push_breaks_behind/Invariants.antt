use Rattle.std.proofs.Common.{◌≡◌, ◌+◌, ◌++◌, map, take}
use Rattle.chew_spec_preedit.specs.Edit.{breaks_behind}
use Rattle.chew_preedit.specs.Splice.{moved_place}
use Rattle.chew_preedit.proofs.splice.Splice.push_breaks_behind.Given as goal

abbrev pub invariant-loop-place : goal.invariant-loop-place
invariant-loop-place l =
    l.kept.items ≡ l.fn.kept.items ++ map (moved_place l.self.removed l.self.added) (breaks_behind (l.self.from + l.self.removed) (take l.place-index l.breaks))
