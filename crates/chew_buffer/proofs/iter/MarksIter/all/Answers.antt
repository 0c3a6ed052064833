-- Each mark is wanted.
use Rattle.chew_buffer.specs.Marks.{marks_in}
use Rattle.chew_buffer.proofs.Ranges.{each_wanted}
use Rattle.chew_buffer.proofs.iter.MarksIter.all.Goals as goal

pub returns : goal.returns
returns c = each_wanted (marks_in c.args.rest)
