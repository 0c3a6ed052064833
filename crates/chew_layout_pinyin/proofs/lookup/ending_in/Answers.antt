-- By what the group has.
use Rattle.std.proofs.Common.{map, arith}
use Rattle.chew_layout_pinyin.specs.Tables.{spelled_of}
use Rattle.chew_layout_pinyin.proofs.Found.{found_here, not_here}
use Rattle.chew_layout_pinyin.proofs.lookup.ending_in.Goals as goal

pub returns-in-Some : goal.returns-in-Some
returns-in-Some c = found_here (λ group. map spelled_of group.now) c.args.groups.now c.loop-group.group-index _ c.args.letters.now _ _ (omega arith) c.loop-group.invariant c.in-Some.ensures

pub loop-group-preserved : goal.loop-group-preserved
loop-group-preserved c = not_here (λ group. map spelled_of group.now) c.args.groups.now c.loop-group.group-index _ c.args.letters.now _ (omega arith) c.loop-group.invariant c.in_default.ensures
