-- The two slots are copies of those that were given.
use Rattle.std.proofs.Common.{◌≡◌, refl, subst}
use Rattle.chew_spec_disk.specs.Memory.{new_disk}
use Rattle.chew_slot_samples.proofs.disks.failing.Goals as goal

pub returns : goal.returns
returns c =
    subst (λ zero. c.of.result ≡ new_disk zero c.args.one.now c.args.fails) c.in_ok-zero.ensures.items
    (subst (λ one. c.of.result ≡ new_disk c.in_ok-zero.zero.items one c.args.fails) c.in_ok-one.ensures.items (c.of.ensures c.in_ok-zero.zero.items c.in_ok-one.one.items refl))
