-- The hits so far, and those of the marks to come, are all.
use Rattle.std.proofs.Common.{length}
use Rattle.chew_spec_dictionary.specs.Look.{hit_of}
use Rattle.chew_spec_layers.specs.Overlay.{live_rows}
use Rattle.chew_buffer.specs.Marks.{marks_under}
use Rattle.chew_plain.specs.Look.{interval}
use Rattle.chew_layers.proofs.Marking.{IsAdded}
use Rattle.chew_layers.proofs.seen.push_fresh.Given as goal

abbrev pub invariant-loop-marked : goal.invariant-loop-marked
invariant-loop-marked l = IsAdded (hit_of (interval l.start (length l.key))) live_rows l.key (marks_under l.fresh l.key) l.initial.hits.items l.hits.items l.marked-iterator
