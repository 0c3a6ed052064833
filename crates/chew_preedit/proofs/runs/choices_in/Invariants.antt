use Rattle.std.proofs.Common.{◌≡◌, ◌≤◌, length, take}
use Rattle.chew_spec_preedit.specs.PlacedRun.{choices_in}
use Rattle.chew_preedit.proofs.runs.choices_in.Given as goal

abbrev pub invariant-loop-choice : goal.invariant-loop-choice
invariant-loop-choice l = (l.inside.items ≡ choices_in l.run (take l.choice-index l.choices)) × (length l.inside.items ≤ l.choice-index)
