-- A part of the bytes was taken, and no fault counted.
use Rattle.std.proofs.Common.{◌≡◌, ◌-◌, ◌≤◌, length, take}
use Rattle.chew_spec_outside.specs.Sink.{appended}
use Rattle.chew_outside.proofs.sink.write_all.Given as goal

abbrev pub invariant-writing : goal.invariant-writing
invariant-writing g l = record {
  within : l.done ≤ length l.bytes;
  taken : g.O.Sink.taken l.sink ≡ appended (g.O.Sink.taken l.fn.sink) (take l.done l.bytes);
  faults : g.O.Sink.faults l.sink ≡ g.O.Sink.faults l.fn.sink;
}

abbrev pub decreases-writing : goal.decreases-writing
decreases-writing g l = length l.bytes - l.done
