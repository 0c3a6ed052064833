-- Less than the whole is shorter.
use Rattle.std.specs.Prelude.{◌≡◌, ◌<◌, length, take, codes}
use Rattle.std.proofs.Common.{refl, ap, arith}
use Rattle.std.proofs.lemmas.List.{length-take}
use Rattle.chew_spec_program.proofs.laws.writing.wrong_writes.Goals as goal

pub returns-clause-whole : goal.returns-clause-whole
returns-clause-whole c = λ writes.
    let cut : writes.count < 3 = writes.cut refl in
    let same : codes "abc" ≡ take writes.count (codes "abc") = cc writes.took in
    omega (arith, ap length same, length-take writes.count (codes "abc"))
