use Rattle.std.proofs.Common.{◌≡◌, ◌≤◌, length, take}
use Rattle.chew_spec_preedit.specs.PlacedRun.{breaks_in}
use Rattle.chew_preedit.proofs.runs.breaks_in.Given as goal

abbrev pub invariant-loop-place : goal.invariant-loop-place
invariant-loop-place l = (l.inside.items ≡ breaks_in l.run (take l.place-index l.breaks)) × (length l.inside.items ≤ l.place-index)
