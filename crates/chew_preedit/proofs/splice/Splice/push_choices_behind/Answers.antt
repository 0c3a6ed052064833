use Rattle.std.proofs.Common.{◌≡◌, ◌+◌, ap, arith, subst, true}
use Rattle.std.specs.Prelude.{nat_le}
use Rattle.std.proofs.lemmas.Bool.{le-leb}
use Rattle.chew_spec_phrasing.specs.Usable.{Choice}
use Rattle.chew_preedit.specs.Splice.{moved_choice}
use Rattle.chew_preedit.proofs.Filtered.{room_behind}
use Rattle.chew_preedit.proofs.splice.Splice.push_choices_behind.Goals as goal

pub push-requires : goal.push-requires
push-requires c =
    let s = c.args.self in
    let x = c.choice-item.result in
    let fits = room_behind (λ (choice : Choice). nat_le (s.from + s.removed) choice.start) (moved_choice s.removed s.added) c.args.kept.now.items c.loop-choice.kept.items c.args.choices.now c.loop-choice.choice-index x c.loop-choice-test.true
    (subst (λ (choice : Choice). nat_le (s.from + s.removed) choice.start ≡ true) c.choice-item.is (le-leb (s.from + s.removed) x.start (omega (arith, c.if-to-choice.true, c.to-to.ensures, ap (λ (v : Choice). v.start) c.choice.view_is))))
    c.loop-choice.invariant c.requires.room in
    (omega arith, fits)
