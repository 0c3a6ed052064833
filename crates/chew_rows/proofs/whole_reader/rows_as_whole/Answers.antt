-- A line that is taken leaves less of the text.
use Rattle.std.proofs.Common.{◌+◌, [], arith}
use Rattle.chew_spec_text.specs.DictionaryText.{dictionary_rows}
use Rattle.chew_spec_text.specs.Lines.{lines_of}
use Rattle.chew_text.proofs.LinesTaken.{leaves_all, leaves_less}
use Rattle.chew_rows.specs.Lines.{Follows, taken}
use Rattle.chew_rows.proofs.Text.{text_lines}
use Rattle.chew_rows.proofs.whole_reader.rows_as_whole.Goals as goal

pub lines-init : goal.lines-init
lines-init c = λ h. (
  0,
  leaves_all taken (dictionary_rows c.args.text.now) [] c.new-rows.result.items c.of-lines.result (lines_of c.args.text.now)
      (text_lines c.args.text.now (omega arith)) c.new-rows.ensures.items c.of-lines.ensures,
)

pub lines-preserved : goal.lines-preserved
lines-preserved c = λ h.
    let follows : Follows c.lines.rows.items c.in-Some.line.now c.add_line.new.rows.items = c.in_ok-add_line.ensures c.if-not-branch.false in
    let before = c.lines.invariant (follows.apart h) in (
      before.0 + 1,
      leaves_less taken (dictionary_rows c.args.text.now) before.0 c.lines.rows.items c.add_line.new.rows.items c.in-Some.line.now c.lines.lines c.next_line.new.self
          before.1 c.in-Some.ensures.some (follows.is h),
    )
