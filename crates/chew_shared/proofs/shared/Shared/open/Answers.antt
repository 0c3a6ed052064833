-- The first of the new passes is the keeper's.
use Rattle.chew_shared.proofs.Legality.{first-pass}
use Rattle.chew_shared.proofs.shared.Shared.open.Goals as goal

pub returns-clause-keeper : goal.returns-clause-keeper
returns-clause-keeper c = first-pass c.in_ok-cell.cell c.in_ok-cell.passes.items c.args.contexts c.remove-keeper.result c.in_ok-cell.ensures.passes c.remove-keeper.ensures.value
