-- The steps keep the rule.
use Rattle.std.proofs.Common.{rules, sym, ap, ◌∙◌, []}
use Rattle.chew_cell.specs.View.{View, idle, sight_of}
use Rattle.chew_cell.proofs.Numbering.{splits_as, numbers_as}
use Rattle.chew_cell.proofs.turnstile.Turnstile.seat.Goals as goal

pub split_seat-seat-requires : goal.split_seat-seat-requires
split_seat-seat-requires g c =
    let e = ap (λ m. m.0) c.requires.idle in
    (search rules, search rules, splits_as g.S.Chronicle.entries g.S.Chronicle.start 1 _ _ _ (e ∙ ap (λ s. idle c.args.first.now.me.0.about s) (sym (ap (λ (v : View). v.sight) e))))

pub compare_exchange-found-requires : goal.compare_exchange-found-requires
compare_exchange-found-requires g c =
    let n = c.split_seat-seat.ensures.4 in (
      search rules,
      search rules,
      numbers_as g.S.Chronicle.entries g.S.Chronicle.start _ _ _ c.args.who _
          (n ∙ ap (λ (v : View). (idle v.about (sight_of v.sight.seen []), [])) (sym (ap (λ m. m.0) n))) c.requires.cell.1,
    )
