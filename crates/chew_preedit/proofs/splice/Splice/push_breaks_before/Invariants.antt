use Rattle.std.proofs.Common.{◌≡◌, ◌++◌, take}
use Rattle.chew_spec_preedit.specs.Edit.{breaks_before}
use Rattle.chew_preedit.proofs.splice.Splice.push_breaks_before.Given as goal

abbrev pub invariant-loop-place : goal.invariant-loop-place
invariant-loop-place l = l.kept.items ≡ l.fn.kept.items ++ breaks_before l.self.from (take l.place-index l.breaks)
