-- What follows the first mark is sound.
use Rattle.std.proofs.Common.{List, ap, sym, ◌∙◌, subst, option_map}
use Rattle.chew_spec_layers.specs.Mark.{Marked}
use Rattle.chew_merge.specs.Rest.{IsSound, Rest, ahead}
use Rattle.chew_merge.specs.MarkRefs.{marked}
use Rattle.chew_merge.proofs.Steps.{ahead_again, sound_behind}
use Rattle.chew_merge.proofs.overlaid.Overlaid.take_mark.Goals as goal

pub invariant_of-self : goal.invariant_of-self
invariant_of-self c =
    let rows = ahead c.self.inside.row c.self.inside.rows in
    subst (λ (marks : List Marked). IsSound (record { rows = rows; marks = marks }))
    (sym (ahead_again marked c.next-self-inside.result c.self.inside.marks c.next-self-inside.new.self c.next-self-inside.ensures.steps))
    (sound_behind rows (option_map marked c.self.inside.mark) c.self.inside.marks (marked c.args.mark) c.requires.first.0 (ap (λ (left : Rest). left.marks) c.self.view_is ∙ c.requires.first.1) c.self.invariant)
