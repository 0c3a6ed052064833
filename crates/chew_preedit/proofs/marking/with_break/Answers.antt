-- Nothing moves where no cell is cut out.
use Rattle.std.proofs.Common.{ap}
use Rattle.chew_spec_preedit.specs.Edit.{breaks_before, breaks_behind}
use Rattle.chew_preedit.specs.Splice.{moved_place}
use Rattle.chew_preedit.specs.declared.splice.Splice.{Splice}
use Rattle.chew_preedit.proofs.Marks.{around_is, place_stays}
use Rattle.chew_preedit.proofs.marking.with_break.Goals as goal

pub returns : goal.returns
returns c =
    around_is (λ at. breaks_before at c.args.breaks.now) (λ at. breaks_behind at c.args.breaks.now) moved_place c.args.place c.args.place c.args.place _ _ _ _ _ _ _ _
    c.new-parted.ensures (ap (λ (s : Splice). s.from) c.at-splice.ensures) (ap (λ (s : Splice). s.from) c.at-splice.ensures) (ap (λ (s : Splice). s.removed) c.at-splice.ensures) (ap (λ (s : Splice). s.added) c.at-splice.ensures)
    place_stays c.push_breaks_before.ensures c.push.ensures.items c.push_breaks_behind.ensures
