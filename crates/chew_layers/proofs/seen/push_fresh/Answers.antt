-- All marks of the key are to come.
use Rattle.std.proofs.Common.{ap, ◌∙◌, length}
use Rattle.chew_spec_dictionary.specs.Look.{hit_of}
use Rattle.chew_spec_layers.specs.Overlay.{live_rows}
use Rattle.chew_buffer.specs.Marks.{marks_under}
use Rattle.chew_plain.specs.Look.{interval}
use Rattle.chew_layers.proofs.Marking.{added_first}
use Rattle.chew_layers.proofs.seen.push_fresh.Goals as goal

pub loop-marked-init : goal.loop-marked-init
loop-marked-init c =
    added_first (hit_of (interval c.args.start (length c.args.key.now))) live_rows c.args.key.now c.args.hits.now.items c.args.fresh.now _ c.marks_of-marked-items.ensures.proper
    (c.into_iter-marked-iterator.ensures.into_iter_gives ∙ c.marks_of-marked-items.ensures.value ∙ ap (marks_under c.args.fresh.now) c.list.ensures.value)
