-- The line's row is the one that is added.
use Rattle.std.proofs.Common.{arith}
use Rattle.chew_rows.proofs.Rows.{line_row}
use Rattle.chew_rows.proofs.Whole.{follows_more}
use Rattle.chew_rows.proofs.whole_reader.add_line.Goals as goal

pub returns : goal.returns
returns c = λ t.
    follows_more c.args.rows.now.items c.push.new.self.items c.args.line.now c.in-Ok.row c.in_ok-push.ensures.items
    (line_row c.args.rows.now.items c.args.line.now c.before_comment.result.now c.in-Some.phrase.now c.in-Some.rest.now c.in-Ok.row c.before_comment.ensures c.in-Some.ensures.some c.in-Ok.ensures.ok)
    (omega arith)
