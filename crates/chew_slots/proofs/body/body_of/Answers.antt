-- By its parts.
use Rattle.std.proofs.Common.{ap, ◌∙◌}
use Rattle.chew_spec_slots.specs.Slot.{digest}
use Rattle.chew_slots.proofs.Bodies.{body-by}
use Rattle.chew_slots.proofs.body.body_of.Goals as goal

pub returns-clause-body : goal.returns-clause-body
returns-clause-body c =
    body-by (record { seq = c.args.seq; checkpoint = record { life = c.args.life; rows = c.args.map.now } }) c.bytes.result.now c.in_ok-body.body.items c.digest-digest.result c.push.new.body.items
    c.bytes.ensures.image c.in_ok-body.ensures (c.digest-digest.ensures ∙ ap digest c.as_slice.ensures.value) c.in_ok-push.ensures
