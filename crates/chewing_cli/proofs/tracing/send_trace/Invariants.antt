-- The lines so far were written.
use Rattle.std.proofs.Common.{false, map, take}
use Rattle.std.specs.Prelude.{flat_map}
use Rattle.chew_spec_text.specs.Entry.{entry_text}
use Rattle.chew_spec_program.specs.Writing.{Writes, sunk}
use Rattle.chew_plain.specs.Call.{entry_of}
use Rattle.chewing_cli.proofs.tracing.send_trace.Given as goal

abbrev pub invariant-entries : goal.invariant-entries
invariant-entries g l =
    Writes (sunk (g.O.Sink.taken l.fn.sink) (g.O.Sink.taken l.sink) (g.O.Sink.faults l.fn.sink) (g.O.Sink.faults l.sink))
    (flat_map entry_text (map entry_of (take l.entry-index l.entries))) false
