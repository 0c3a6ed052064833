-- Each kind of step.
use Rattle.std.proofs.Common.{sym, ◌∙◌}
use Rattle.chew_merge.specs.MarkRefs.{marked}
use Rattle.chew_merge.proofs.Steps.{hidden_step, mark_step, row_step}
use Rattle.chew_merge.proofs.overlaid.Overlaid.step.Goals as goal

pub returns-in-Less : goal.returns-in-Less
returns-in-Less c =
    row_step c.take_row.result c.args.self.now c.take_row.new.self (marked c.args.mark) c.requires.first.0 c.requires.sound c.requires.first.1
    (sym c.order_to.ensures ∙ c.in-Less.is) c.take_row.ensures.rows c.take_row.ensures.marks

pub returns-in-Equal : goal.returns-in-Equal
returns-in-Equal c =
    hidden_step c.take_row-hidden.result c.args.self.now c.take_row-hidden.new.self (marked c.args.mark) c.requires.first.0 c.requires.first.1
    (sym c.order_to.ensures ∙ c.in-Equal.is) c.take_row-hidden.ensures.rows c.take_row-hidden.ensures.marks

pub returns-in-Greater : goal.returns-in-Greater
returns-in-Greater c =
    mark_step c.take_mark.result c.args.self.now c.take_mark.new.self (marked c.args.mark) c.requires.first.0 c.requires.sound c.requires.first.1
    (sym c.order_to.ensures ∙ c.in-Greater.is) c.take_mark.ensures.row c.take_mark.ensures.marks c.take_mark.ensures.rows
