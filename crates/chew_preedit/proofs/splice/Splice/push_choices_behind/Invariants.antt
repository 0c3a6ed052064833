use Rattle.std.proofs.Common.{◌≡◌, ◌+◌, ◌++◌, map, take}
use Rattle.chew_spec_preedit.specs.Edit.{choices_behind}
use Rattle.chew_preedit.specs.Splice.{moved_choice}
use Rattle.chew_preedit.proofs.splice.Splice.push_choices_behind.Given as goal

abbrev pub invariant-loop-choice : goal.invariant-loop-choice
invariant-loop-choice l =
    l.kept.items ≡ l.fn.kept.items ++ map (moved_choice l.self.removed l.self.added) (choices_behind (l.self.from + l.self.removed) (take l.choice-index l.choices))
