-- By what the initial has.
use Rattle.std.proofs.Common.{map, arith}
use Rattle.chew_spec_layout.specs.Spelling.{joined}
use Rattle.chew_layout_pinyin.specs.Tables.{groups_of, spelled_of}
use Rattle.chew_layout_pinyin.proofs.Found.{found_here, not_here}
use Rattle.chew_layout_pinyin.proofs.lookup.in_row.Goals as goal

pub returns-in-Some : goal.returns-in-Some
returns-in-Some c = found_here (λ initial. map (joined (spelled_of initial)) (groups_of c.args.row.endings.now)) c.args.row.initials.now c.loop-initial.initial-index _ c.args.letters.now _ _ (omega arith) c.loop-initial.invariant c.in-Some.ensures

pub loop-initial-preserved : goal.loop-initial-preserved
loop-initial-preserved c = not_here (λ initial. map (joined (spelled_of initial)) (groups_of c.args.row.endings.now)) c.args.row.initials.now c.loop-initial.initial-index _ c.args.letters.now _ (omega arith) c.loop-initial.invariant c.in_default.ensures
