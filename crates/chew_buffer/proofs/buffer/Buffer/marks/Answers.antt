-- All entries.
use Rattle.std.proofs.Common.{ap, ◌∙◌}
use Rattle.chew_buffer.specs.Marks.{marks_in}
use Rattle.chew_buffer.proofs.Ranges.{all_between}
use Rattle.chew_buffer.proofs.buffer.Buffer.marks.Goals as goal

pub returns-clause-value : goal.returns-clause-value
returns-clause-value c =
    c.all.ensures
    ∙ ap marks_in (c.range.ensures.between tt ∙ all_between c.self.inside.marks.entries)
    ∙ c.self.view_is
