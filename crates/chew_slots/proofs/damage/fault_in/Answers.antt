-- By the magic.
use Rattle.std.proofs.Common.{sym, ap, ◌∙◌}
use Rattle.chew_spec_image.specs.ReadNodes.{unless_fault}
use Rattle.chew_spec_image.specs.Reading.{image_reading}
use Rattle.chew_spec_slots.specs.Reading.{image_in, saved_as, saved_in}
use Rattle.chew_slots.proofs.Magics.{digest-in, neither-in, none-by, plain-in, some-by}
use Rattle.chew_slots.proofs.damage.fault_in.Goals as goal

pub returns-then-has_magic-clause-some : goal.returns-then-has_magic-clause-some
returns-then-has_magic-clause-some c =
    let bytes = c.args.bytes.now in
    let next = saved_as bytes (image_reading (image_in bytes)) in
    some-by c.plain_fault.result (saved_in bytes) next (plain-in bytes (sym c.has_magic.ensures ∙ c.if-has_magic.true) ∙ ap (λ f. unless_fault f next) (sym c.plain_fault.ensures.fault))

pub returns-then-has_magic-clause-none : goal.returns-then-has_magic-clause-none
returns-then-has_magic-clause-none c =
    let bytes = c.args.bytes.now in
    let next = saved_as bytes (image_reading (image_in bytes)) in
    none-by c.plain_fault.result (saved_in bytes) next (plain-in bytes (sym c.has_magic.ensures ∙ c.if-has_magic.true) ∙ ap (λ f. unless_fault f next) (sym c.plain_fault.ensures.fault))

pub returns-then-has_magic-2-clause-some : goal.returns-then-has_magic-2-clause-some
returns-then-has_magic-2-clause-some c =
    let bytes = c.args.bytes.now in
    let next = saved_as bytes (image_reading (image_in bytes)) in
    some-by c.digest_fault.result (saved_in bytes) next
    (digest-in bytes (sym c.has_magic.ensures ∙ c.if-has_magic.false) (sym c.has_magic-2.ensures ∙ c.if-has_magic-2.true) ∙ ap (λ f. unless_fault f next) (sym c.digest_fault.ensures.fault))

pub returns-then-has_magic-2-clause-none : goal.returns-then-has_magic-2-clause-none
returns-then-has_magic-2-clause-none c =
    let bytes = c.args.bytes.now in
    let next = saved_as bytes (image_reading (image_in bytes)) in
    none-by c.digest_fault.result (saved_in bytes) next
    (digest-in bytes (sym c.has_magic.ensures ∙ c.if-has_magic.false) (sym c.has_magic-2.ensures ∙ c.if-has_magic-2.true) ∙ ap (λ f. unless_fault f next) (sym c.digest_fault.ensures.fault))

pub returns-clause-some : goal.returns-clause-some
returns-clause-some c = neither-in c.args.bytes.now (sym c.has_magic.ensures ∙ c.if-has_magic.false) (sym c.has_magic-2.ensures ∙ c.if-has_magic-2.false)
