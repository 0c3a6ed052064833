use Rattle.std.proofs.Common.{arith, nat_lt}
use Rattle.std.proofs.lemmas.Bool.{lt-ltb}
use Rattle.chew_preedit.proofs.Filtered.{room_before}
use Rattle.chew_preedit.proofs.splice.Splice.push_breaks_before.Goals as goal

pub push-requires : goal.push-requires
push-requires c =
    let fits = room_before (λ at. nat_lt at c.args.self.from) c.args.kept.now.items c.loop-place.kept.items c.args.breaks.now c.loop-place.place-index 0 c.loop-place-test.true (lt-ltb _ _ c.if-place-self.true) c.loop-place.invariant c.requires in
    (omega arith, fits)
