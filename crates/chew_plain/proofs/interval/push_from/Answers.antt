-- One length more.
use Rattle.std.proofs.Common.{◌+◌}
use Rattle.chew_plain.specs.Look.{interval}
use Rattle.chew_plain.proofs.Looks.{one_more}
use Rattle.chew_plain.proofs.interval.push_from.Goals as goal

pub loop-len-preserved : goal.loop-len-preserved
loop-len-preserved c = one_more (interval c.args.start) _ _ _ c.loop-len.len (c.min-limit.result + 1) c.loop-len-test.true c.in_ok-push.ensures.items c.loop-len.invariant
