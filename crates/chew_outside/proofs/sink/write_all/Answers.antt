-- A write more.
use Rattle.std.proofs.Common.{◌-◌, ◌≡◌, arith, length, drop, take, refl, subst, ◌∙◌, length-drop}
use Rattle.std.proofs.lemmas.List.{take_all}
use Rattle.chew_spec_outside.specs.Sink.{Takes}
use Rattle.chew_spec_outside.proofs.Contents.{takes-chain}
use Rattle.chew_outside.proofs.sink.write_all.Goals as goal

pub writing-preserved : goal.writing-preserved
writing-preserved g c =
    let bytes = c.args.bytes.now in
    let long = length-drop c.writing.done bytes in
    let rest : take (length bytes - c.writing.done) (drop c.writing.done bytes) ≡ drop c.writing.done bytes = take_all _ _ (omega arith) in
    let takes = subst (λ piece. Takes (g.O.Sink.taken c.writing.sink) (g.O.Sink.taken c.write.new.self) piece c.in_ok-done.field-0) rest c.in_ok-done.ensures.ok in
    record {
      within = omega (arith, takes.fits);
      taken = takes-chain _ _ _ bytes c.writing.done c.in_ok-done.field-0 c.writing.invariant.taken takes;
      faults = c.in_ok-done.ensures.cause.same refl ∙ c.writing.invariant.faults;
    }
