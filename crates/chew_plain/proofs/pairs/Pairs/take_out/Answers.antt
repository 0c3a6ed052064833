-- A row less is counted.
use Rattle.std.proofs.Common.{true, false, length, ap, arith}
use Rattle.chew_plain.proofs.Outcomes.{count_shrunk}
use Rattle.chew_plain.proofs.pairs.Pairs.take_out.Goals as goal

pub invariant_of-self : goal.invariant_of-self
invariant_of-self c =
    let shrunk = count_shrunk c.args.key.now c.args.phrase.now c.self.inside.lists true c.if-held.ensures.map c.if-held.ensures.held in
    omega (arith, shrunk, c.self.invariant, ap length c.if-held.ensures.left)

pub invariant_of-self-else-held : goal.invariant_of-self-else-held
invariant_of-self-else-held c =
    let shrunk = count_shrunk c.args.key.now c.args.phrase.now c.self.inside.lists false c.if-held.ensures.map c.if-held.ensures.held in
    omega (arith, shrunk, c.self.invariant, ap length c.if-held.ensures.left)
