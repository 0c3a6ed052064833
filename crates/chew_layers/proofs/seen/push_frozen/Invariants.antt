-- The hits so far, and those of the marks to come, are all.
use Rattle.std.proofs.Common.{length}
use Rattle.chew_spec_dictionary.specs.Look.{hit_of}
use Rattle.chew_spec_layers.specs.Overlay.{live_rows, unmarked_rows}
use Rattle.chew_buffer.specs.Marks.{marks_under}
use Rattle.chew_plain.specs.Look.{interval}
use Rattle.chew_layers.proofs.Marking.{IsAdded}
use Rattle.chew_layers.proofs.seen.push_frozen.Given as goal

abbrev pub invariant-loop-marked : goal.invariant-loop-marked
invariant-loop-marked l = IsAdded (hit_of (interval l.start (length l.key))) (λ marks. unmarked_rows (live_rows marks) l.fresh) l.key (marks_under l.frozen l.key) l.initial.hits.items l.hits.items l.marked-iterator
