-- All marks of the key are to come.
use Rattle.std.proofs.Common.{ap, ◌∙◌, length, List}
use Rattle.chew_spec_dictionary.specs.Look.{hit_of}
use Rattle.chew_spec_layers.specs.Mark.{Marked}
use Rattle.chew_spec_layers.specs.Overlay.{live_rows, unmarked_rows}
use Rattle.chew_buffer.specs.Marks.{marks_under}
use Rattle.chew_plain.specs.Look.{interval}
use Rattle.chew_layers.proofs.Marking.{added_first}
use Rattle.chew_layers.proofs.seen.push_frozen.Goals as goal

pub loop-marked-init : goal.loop-marked-init
loop-marked-init c =
    added_first (hit_of (interval c.args.start (length c.args.key.now))) (λ (marks : List Marked). unmarked_rows (live_rows marks) c.args.fresh.now) c.args.key.now c.args.hits.now.items
    c.args.frozen.now _ c.marks_of-marked-items.ensures.proper
    (c.into_iter-marked-iterator.ensures.into_iter_gives ∙ c.marks_of-marked-items.ensures.value ∙ ap (marks_under c.args.frozen.now) c.list.ensures.value)
