-- By what the row has.
use Rattle.std.proofs.Common.{arith}
use Rattle.chew_layout_pinyin.specs.Tables.{row_of}
use Rattle.chew_layout_pinyin.proofs.Found.{found_here, not_here}
use Rattle.chew_layout_pinyin.proofs.lookup.marks_of.Goals as goal

pub returns-in-Some : goal.returns-in-Some
returns-in-Some c = found_here row_of c.rows-row-items.result.now c.loop-row.row-index _ c.args.letters.now _ _ (omega arith) c.loop-row.invariant c.in-Some.ensures

pub loop-row-preserved : goal.loop-row-preserved
loop-row-preserved c = not_here row_of c.rows-row-items.result.now c.loop-row.row-index _ c.args.letters.now _ (omega arith) c.loop-row.invariant c.in_default.ensures
