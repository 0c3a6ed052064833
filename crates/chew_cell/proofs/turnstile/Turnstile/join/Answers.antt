-- The steps keep the rule, and the second one tells how the two sights stand.
use Rattle.std.proofs.Common.{rules, ap, ◌∙◌}
use mathlib.Core.Option.{none}
use Rattle.atomic_table.specs.Table.{step}
use Rattle.chew_cell.specs.View.{joined}
use Rattle.chew_cell.proofs.Joining.{joins_as, learns_as, learned}
use Rattle.chew_cell.proofs.turnstile.Turnstile.join.Goals as goal

pub join_seat-requires : goal.join_seat-requires
join_seat-requires g c = (
  search rules,
  search rules,
  ap (λ m. m.1) c.requires.idle.1,
  search rules,
  joins_as g.S.Chronicle.entries g.S.Chronicle.start _ _ _ _ _ (ap (λ m. m.0) c.requires.idle.0) (ap (λ m. m.0) c.requires.idle.1),
)

pub load-requires : goal.load-requires
load-requires g c =
    let j = c.join_seat.ensures.2 ∙ ap (λ l. (joined c.args.seat.now.me.0 c.args.other.me.0, l)) (ap (λ m. m.1) c.requires.idle.0) in
    (search rules, search rules, learns_as g.S.Chronicle.entries g.S.Chronicle.start _ _ _ c.args.seat.now.me.0 c.args.other.me.0 _ (step 0 0 0 0 none) j)

pub returns-clause-both : goal.returns-clause-both
returns-clause-both g c =
    let j = c.join_seat.ensures.2 ∙ ap (λ l. (joined c.args.seat.now.me.0 c.args.other.me.0, l)) (ap (λ m. m.1) c.requires.idle.0) in
    (learned c.args.seat.now.me.0 c.args.other.me.0 _ _ c.load.result (step 0 0 0 0 none) j c.load.ensures.2).0

pub returns-clause-mine : goal.returns-clause-mine
returns-clause-mine g c =
    let j = c.join_seat.ensures.2 ∙ ap (λ l. (joined c.args.seat.now.me.0 c.args.other.me.0, l)) (ap (λ m. m.1) c.requires.idle.0) in
    (learned c.args.seat.now.me.0 c.args.other.me.0 _ _ c.load.result (step 0 0 0 0 none) j c.load.ensures.2).1

pub returns-clause-theirs : goal.returns-clause-theirs
returns-clause-theirs g c =
    let j = c.join_seat.ensures.2 ∙ ap (λ l. (joined c.args.seat.now.me.0 c.args.other.me.0, l)) (ap (λ m. m.1) c.requires.idle.0) in
    (learned c.args.seat.now.me.0 c.args.other.me.0 _ _ c.load.result (step 0 0 0 0 none) j c.load.ensures.2).2
