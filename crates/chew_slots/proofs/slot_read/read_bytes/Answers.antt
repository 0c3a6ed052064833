-- By what the disk answers.
use Rattle.std.proofs.Common.{arith, refl, ◌∙◌}
use Rattle.chew_slots.proofs.Moments.{length-calls, slot-calls, stays_calls}
use Rattle.chew_slots.proofs.Recovering.{large, refused-any}
use Rattle.chew_slots.proofs.slot_read.read_bytes.Goals as goal

pub returns-in-Err-clause-refused : goal.returns-in-Err-clause-refused
returns-in-Err-clause-refused g c = ((g.D.Disk.state c.args.disk.now).reads c.args.slot, λ told. refl, λ behind. tt)

pub returns-then-len-gt-LENGTH_LIMIT-clause-refused : goal.returns-then-len-gt-LENGTH_LIMIT-clause-refused
returns-then-len-gt-LENGTH_LIMIT-clause-refused g c =
    let l = large (g.D.Disk.told c.args.disk.now) ((g.D.Disk.state c.args.disk.now).reads c.args.slot) c.args.slot c.in-Ok.len c.in-Ok.ensures.ok (omega arith) in
    (l.bytes, l.are_told, l.refused)

pub returns-clause-refused : goal.returns-clause-refused
returns-clause-refused g c =
    refused-any (g.D.Disk.told c.args.disk.now) ((g.D.Disk.state c.args.disk.now).reads c.args.slot) c.args.slot c.read_so_many.result c.read_so_many.ensures.fault

pub returns-in-Err-clause-calls : goal.returns-in-Err-clause-calls
returns-in-Err-clause-calls g c told =
    let before = g.D.Disk.state c.args.disk.now in
    let after = g.D.Disk.state c.length.new.self in
    length-calls (before.reads c.args.slot) before.moment after.moment (stays_calls before after (c.in-Err.ensures.stays told))

pub returns-then-len-gt-LENGTH_LIMIT-clause-calls : goal.returns-then-len-gt-LENGTH_LIMIT-clause-calls
returns-then-len-gt-LENGTH_LIMIT-clause-calls g c told =
    let before = g.D.Disk.state c.args.disk.now in
    let after = g.D.Disk.state c.length.new.self in
    length-calls (before.reads c.args.slot) before.moment after.moment (stays_calls before after (c.in-Ok.ensures.stays told))

pub returns-clause-calls : goal.returns-clause-calls
returns-clause-calls g c told =
    let before = g.D.Disk.state c.args.disk.now in
    let middle = g.D.Disk.state c.length.new.self in
    let after = g.D.Disk.state c.read_so_many.new.disk in
    let told_now = c.in-Ok.ensures.told ∙ told in
    slot-calls (before.reads c.args.slot) c.in-Ok.len before.moment middle.moment after.moment (c.in-Ok.ensures.ok told)
    (stays_calls before middle (c.in-Ok.ensures.stays told)) (c.read_so_many.ensures.calls told_now) (c.read_so_many.ensures.empty told_now)
