-- Nothing moves where no cell is cut out.
use Rattle.std.proofs.Common.{ap, ◌∙◌}
use Rattle.chew_spec_phrasing.specs.Usable.{Choice, choice_end}
use Rattle.chew_spec_preedit.specs.Edit.{choices_before, choices_behind}
use Rattle.chew_preedit.specs.Splice.{moved_choice}
use Rattle.chew_preedit.specs.declared.splice.Splice.{Splice}
use Rattle.chew_preedit.proofs.Marks.{around_is, choice_stays}
use Rattle.chew_preedit.proofs.marking.with_choice.Goals as goal

pub returns : goal.returns
returns c =
    around_is (λ at. choices_before at c.args.choices.now) (λ at. choices_behind at c.args.choices.now) moved_choice c.args.choice c.args.choice.start (choice_end c.args.choice) _ _ _ _ _ _ _ _
    c.new-chosen.ensures (ap (λ (s : Splice). s.from) c.at.ensures ∙ ap (λ (v : Choice). v.start) c.choice.view_is) (ap (λ (s : Splice). s.from) c.at-2.ensures ∙ c.choice_end-end.ensures) (ap (λ (s : Splice). s.removed) c.at-2.ensures) (ap (λ (s : Splice). s.added) c.at-2.ensures)
    choice_stays c.push_choices_before.ensures c.push.ensures.items c.push_choices_behind.ensures
