use Rattle.std.proofs.Common.{◌≡◌, arith, subst, true}
use Rattle.std.specs.Prelude.{nat_le}
use Rattle.std.proofs.lemmas.Bool.{le-leb}
use Rattle.chew_spec_phrasing.specs.Usable.{Choice, choice_end}
use Rattle.chew_preedit.proofs.Filtered.{room_before}
use Rattle.chew_preedit.proofs.splice.Splice.push_choices_before.Goals as goal

pub push-requires : goal.push-requires
push-requires c =
    let from = c.args.self.from in
    let x = c.choice-item.result in
    let fits = room_before (λ (choice : Choice). nat_le (choice_end choice) from) c.args.kept.now.items c.loop-choice.kept.items c.args.choices.now c.loop-choice.choice-index x c.loop-choice-test.true
    (subst (λ (choice : Choice). nat_le (choice_end choice) from ≡ true) c.choice-item.is (le-leb (choice_end x) from (omega (arith, c.if-choice_end-from.true, c.choice_end.ensures, c.from.ensures))))
    c.loop-choice.invariant c.requires in
    (omega arith, fits)
