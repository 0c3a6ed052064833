-- The seat carries the value that it took back, and the step keeps the rule.
use Rattle.std.proofs.Common.{rules, ◌≡◌, refl, sym, ap, ◌∙◌, subst, ◌∷◌, [], Some}
use mathlib.Core.Option.{none}
use Rattle.std.specs.declared.option.Option.{Option as Opt}
use Rattle.atomic_table.specs.Table.{step, Me}
use Rattle.chew_cell.specs.View.{View, idle, in_turn, ticket_of}
use Rattle.chew_cell.specs.Steps.{carried_value}
use Rattle.chew_cell.proofs.Serving.{calls_next_as}
use Rattle.chew_cell.proofs.Glue.{recorded}
use Rattle.chew_cell.proofs.turnstile.Turnstile.leave.Goals as goal

pub record-requires-clause-carries : goal.record-requires-clause-carries
record-requires-clause-carries g c κs within = (c.args.value, ap (λ m. carried_value m.1) c.exchange.ensures.3)

pub fetch_add-served-requires : goal.fetch_add-served-requires
fetch_add-served-requires g c =
    let r = recorded g.S.Chronicle.entries g.S.Chronicle.start _ _ _ c.args.value c.requires.turn c.exchange.ensures.3 c.record.ensures.seen in (
      search rules,
      search rules,
      calls_next_as g.S.Chronicle.entries g.S.Chronicle.start _ _ _ _ c.args.value (step 0 2 1 0 none)
          (subst (λ (m : Me (Opt g.row.S.Denot) View). m ≡ (in_turn m.0.about m.0.sight (ticket_of m.0), (0, Some c.args.value) ∷ [])) (sym r) refl)
          (ap (λ m. m.0.sight.seen) (sym r))
          (c.requires.start ∙ ap (λ m. m.0.about.0) (sym r)),
    )

pub returns-clause-idle : goal.returns-clause-idle
returns-clause-idle g c =
    let r = recorded g.S.Chronicle.entries g.S.Chronicle.start _ _ _ c.args.value c.requires.turn c.exchange.ensures.3 c.record.ensures.seen in
    c.fetch_add-served.ensures.2 ∙ ap (λ m. (idle m.0.about m.0.sight, [])) r
