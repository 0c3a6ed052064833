-- A new table meets the rule.
use Rattle.std.proofs.Common.{rules, arith, ◌≡◌, sym, ap, subst, ◌∷◌, [], Some, List}
use Rattle.std.specs.declared.option.Option.{Option as Opt}
use Rattle.std.proofs.lemmas.Grind.{common_steps}
use Rattle.atomic_table.specs.Table.{opening}
use Rattle.chew_cell.specs.View.{idle, nothing_seen}
use Rattle.chew_cell.specs.Rule.{Kept}
use Rattle.chew_cell.proofs.Numbering.{opens}
use Rattle.chew_cell.proofs.turnstile.Turnstile.open.Goals as goal

pub new-requires : goal.new-requires
new-requires g c =
    let E = g.S.Chronicle.entries in
    let F = g.S.Chronicle.start in
    let start = F c.of.result.value in
    let items : c.push.new.self.items ≡ Some c.args.value ∷ [] = grind (arith, common_steps) in
    subst (λ (slots : List (Opt g.row.S.Denot)). Kept E F (start, c.args.seats) (opening (0 ∷ 0 ∷ 0 ∷ 0 ∷ []) slots (idle (start, c.args.seats) nothing_seen))) (sym items)
    (opens E F 1 (start, c.args.seats) c.args.value c.requires (ap F (sym c.of.ensures)) (search rules))
