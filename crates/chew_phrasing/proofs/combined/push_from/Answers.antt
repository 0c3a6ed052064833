-- One length more.
use Rattle.std.proofs.Common.{◌+◌}
use Rattle.chew_plain.proofs.Looks.{part_more}
use Rattle.chew_phrasing.specs.Combine.{combined_at, interval}
use Rattle.chew_phrasing.proofs.combined.push_from.Goals as goal

pub loop-len-preserved : goal.loop-len-preserved
loop-len-preserved g c =
    part_more (λ len. combined_at (g.L.Lexicon.rows c.args.system.now) c.args.run.now c.args.user.now (interval c.args.start len)) _ _ _ c.loop-len.len (c.min-limit.result + 1) c.loop-len-test.true c.in_ok-push_at.ensures c.loop-len.invariant
