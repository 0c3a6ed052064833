-- By the bytes of the image.
use Rattle.std.proofs.Common.{◌≡◌, ℕ, ◌+◌, ◌-◌, take, drop, arith, subst}
use Rattle.std.proofs.lemmas.Result.{err_from_is_err_and}
use Rattle.chew_spec_image.specs.Reading.{image_reading}
use Rattle.chew_spec_slots.specs.Reading.{as_open, image_len, saved_as}
use Rattle.chew_slots.specs.Contents.{TellsFaulty}
use Rattle.chew_slots.proofs.stored.with_image.Goals as goal

pub returns-in_err-map-clause-err : goal.returns-in_err-map-clause-err
returns-in_err-map-clause-err c =
    let bytes = c.args.bytes.now in
    let same : 33 + c.image_len.result - 33 ≡ image_len bytes = omega (arith, c.image_len.ensures) in
    let p = err_from_is_err_and c.from_residual.result c.from_residual.ensures.1 in
    rw (p.1, p.2) (subst (λ (n : ℕ). TellsFaulty (as_open (saved_as bytes (image_reading (take n (drop 33 bytes))))) c.in_err-map.field-0.0) same (c.in_err-map.ensures.err bytes))
