use Rattle.std.proofs.Common.{◌≡◌, ◌++◌, take}
use Rattle.chew_spec_preedit.specs.Edit.{choices_before}
use Rattle.chew_preedit.proofs.splice.Splice.push_choices_before.Given as goal

abbrev pub invariant-loop-choice : goal.invariant-loop-choice
invariant-loop-choice l = l.kept.items ≡ l.fn.kept.items ++ choices_before l.self.from (take l.choice-index l.choices)
