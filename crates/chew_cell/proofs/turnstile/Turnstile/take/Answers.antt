-- The slot that the seat carries has the value.
use Rattle.std.proofs.Common.{rules, sym, ap, ◌∙◌, ◌∷◌, Some}
use Rattle.atomic_table.specs.Table.{rest}
use Rattle.chew_cell.proofs.turnstile.Turnstile.take.Goals as goal

pub exchange-requires : goal.exchange-requires
exchange-requires g c =
    let v = c.requires.carries in
    (search rules, (Some v.0, v.1 ∙ ap (λ l. (0, Some v.0) ∷ rest l) (sym v.1)))
