-- A line, and the lines behind it.
use Rattle.std.proofs.Common.{◌∙◌, ◌++◌, ◌-◌, ap, arith, flat_map}
use Rattle.chew_spec_text.specs.Line.{with_line_feed}
use Rattle.chew_spec_generator.specs.Generator.{draws_from, line_of_draws, line_steps, lines_from}
use Rattle.chew_script.proofs.Generated.{both_appended, lines_done, lines_more}
use Rattle.chew_script.proofs.generator.«+push_lines».Goals as goal

pub returns-then-count-eq0 : goal.returns-then-count-eq0
returns-then-count-eq0 t c = lines_done c.args.text.now.items c.args.count c.args.number (omega arith)

pub returns : goal.returns
returns t c =
    both_appended c.push_lines.result c.push_lines.new.text.items c.push_line.new.text.items c.args.text.now.items
    (with_line_feed (line_of_draws (draws_from line_steps c.args.number))) (flat_map with_line_feed (lines_from (c.args.count - 1) c.in_ok-next.next))
    (flat_map with_line_feed (lines_from c.args.count c.args.number)) c.push_lines.ensures c.in_ok-next.ensures.text
    (ap (λ next. with_line_feed (line_of_draws (draws_from line_steps c.args.number)) ++ flat_map with_line_feed (lines_from (c.args.count - 1) next)) c.in_ok-next.ensures.number
    ∙ lines_more c.args.count c.args.number (omega arith))
