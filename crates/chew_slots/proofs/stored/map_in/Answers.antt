-- By how near the places of an image are.
use Rattle.std.proofs.Common.{arith, ap, length}
use Rattle.chew_slots.proofs.Places.{place-near}
use Rattle.chew_slots.proofs.stored.map_in.Goals as goal

pub overflow_add-result : goal.overflow_add-result
overflow_add-result c =
    let near = place-near c.in-Ok.copy.items c.in-Err-of.fault.place c.in-Err-of.ensures.err in
    omega (arith, ap length c.in-Ok.ensures.items, c.requires)
