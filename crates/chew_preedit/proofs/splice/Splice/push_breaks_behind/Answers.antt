use Rattle.std.proofs.Common.{◌+◌, arith, nat_lt}
use Rattle.std.proofs.lemmas.Bool.{lt-ltb}
use Rattle.chew_preedit.specs.Splice.{moved_place}
use Rattle.chew_preedit.proofs.Filtered.{room_behind}
use Rattle.chew_preedit.proofs.splice.Splice.push_breaks_behind.Goals as goal

pub push-requires : goal.push-requires
push-requires c =
    let s = c.args.self in
    let fits = room_behind (nat_lt (s.from + s.removed)) (moved_place s.removed s.added) c.args.kept.now.items c.loop-place.kept.items c.args.breaks.now c.loop-place.place-index 0 c.loop-place-test.true
    (lt-ltb _ _ (let e = c.to-to.ensures in omega (arith, c.if-place-to.true))) c.loop-place.invariant c.requires.room in
    (omega arith, fits)
