-- Where no mark is left, the rows are those of the map.
use Rattle.chew_merge.proofs.Steps.{last_rows}
use Rattle.chew_merge.proofs.overlaid.Overlaid.take.Goals as goal

pub returns : goal.returns
returns c =
    last_rows c.take_row.result c.args.self.now c.merging.self c.take_row.new.self c.merging.invariant c.in_default.ensures.sound c.in_default.ensures.first
    c.take_row.ensures.rows c.take_row.ensures.marks
