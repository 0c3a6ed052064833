-- The step keeps the rule.
use Rattle.std.proofs.Common.{rules, ◌<◌, ◌^◌, sym, ap, ◌∙◌, subst, ◌∷◌, [], length}
use Rattle.std.specs.Option.{option_map_or}
use mathlib.Core.Option.{none}
use Rattle.atomic_table.specs.Table.{step}
use Rattle.chew_cell.specs.View.{in_turn, ticket_of}
use Rattle.chew_cell.proofs.Serving.{adds_as}
use Rattle.chew_cell.proofs.turnstile.Turnstile.record.Goals as goal

pub fetch_add-requires : goal.fetch_add-requires
fetch_add-requires g c =
    let v = c.args.seat.now.me.0 in
    let has = c.requires.carries.1 in
    let same = ap (λ o. option_map_or g.S.Chronicle.entries o []) has in
    let e = c.requires.entries.more c.if-grown.true in (
      search rules,
      search rules,
      adds_as g.S.Chronicle.entries g.S.Chronicle.start _ _ _ _ c.requires.carries.0 e.0 (step 0 0 1 0 none)
          (c.requires.turn ∙ ap (λ o. (in_turn v.about v.sight (ticket_of v), (0, o) ∷ [])) has)
          (sym same ∙ e.1) e.2 (subst (λ l. length l < 2 ^ 64) same c.requires.short),
    )
