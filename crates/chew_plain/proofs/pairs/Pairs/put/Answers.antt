-- A row more is counted.
use Rattle.std.proofs.Common.{true, false, List, length, ap, sym, ◌∙◌, arith}
use Rattle.chew_spec_syllable.specs.Row.{Row}
use Rattle.chew_spec_dictionary.specs.Dictionary.{put_row}
use Rattle.chew_plain.proofs.Outcomes.{count_grown}
use Rattle.chew_plain.proofs.pairs.Pairs.put.Goals as goal

pub overflow_add-self : goal.overflow_add-self
overflow_add-self c =
    let grown = count_grown c.args.row c.self.inside.lists true c.in_ok-put.ensures.map (sym c.if-branch.true ∙ c.in_ok-put.ensures.new) in
    omega (arith, grown, c.self.invariant, ap (λ (l : List Row). length (put_row c.args.row l)) c.self.view_is, c.requires.room)

pub invariant_of-self-then-branch : goal.invariant_of-self-then-branch
invariant_of-self-then-branch c =
    let grown = count_grown c.args.row c.self.inside.lists true c.in_ok-put.ensures.map (sym c.if-branch.true ∙ c.in_ok-put.ensures.new) in
    omega (arith, grown, c.self.invariant, ap length c.in_ok-put.ensures.ok)

pub invariant_of-self-else-branch : goal.invariant_of-self-else-branch
invariant_of-self-else-branch c =
    let grown = count_grown c.args.row c.self.inside.lists false c.in_ok-put.ensures.map (sym c.if-branch.false ∙ c.in_ok-put.ensures.new) in
    omega (arith, grown, c.self.invariant, ap length c.in_ok-put.ensures.ok)
