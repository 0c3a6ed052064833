use Rattle.std.proofs.Common.{◌≡◌, take}
use Rattle.chew_preedit.proofs.copied.choices_copied.Given as goal

abbrev pub invariant-loop-choice : goal.invariant-loop-choice
invariant-loop-choice l = l.copied.items ≡ take l.choice-index l.choices
