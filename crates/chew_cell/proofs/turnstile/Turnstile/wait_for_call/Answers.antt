-- The steps keep the rule, and the one that finds the ticket calls the seat.
use Rattle.std.proofs.Common.{rules, ◌≡◌, sym, subst, []}
use mathlib.Core.Option.{none}
use Rattle.std.specs.declared.option.Option.{Option as Opt}
use Rattle.atomic_table.specs.Table.{step, Me}
use Rattle.chew_cell.specs.View.{View, waiting, ticket_of}
use Rattle.chew_cell.proofs.Tickets.{looks_as}
use Rattle.chew_cell.proofs.turnstile.Turnstile.wait_for_call.Goals as goal

pub load-serving-requires : goal.load-serving-requires
load-serving-requires g c = (
  search rules,
  search rules,
  looks_as g.S.Chronicle.entries g.S.Chronicle.start _ _ _ _ (step 0 2 0 0 none)
      (subst (λ (m : Me (Opt g.row.S.Denot) View). m ≡ (waiting m.0.about m.0.sight (ticket_of m.0), [])) (sym c.loop.invariant.1) c.requires.waits.0),
)
