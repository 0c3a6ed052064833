-- The text is cut at the first line feed, or is the last line.
use Rattle.std.proofs.Common.{sym}
use Rattle.chew_text.proofs.NextLine.{last_line, line_cut}
use Rattle.chew_text.proofs.lines.Lines.next_line.Goals as goal

pub returns-in-Some-clause-some : goal.returns-in-Some-clause-some
returns-in-Some-clause-some c =
    line_cut c.args.self.now c.self.inside.ended c.self.inside.rest.now c.without_return.result.now c.in-Some.line.now c.in-Some.behind.now (sym c.self.view_is) c.if-self.false
    c.in-Some.ensures.whole c.in-Some.ensures.first c.without_return.ensures

pub returns-in-None-clause-some : goal.returns-in-None-clause-some
returns-in-None-clause-some c =
    last_line c.args.self.now c.self.inside.ended c.self.inside.rest.now c.without_return-in-None.result.now (sym c.self.view_is) c.if-self.false
    c.in-None.ensures.none c.without_return-in-None.ensures
