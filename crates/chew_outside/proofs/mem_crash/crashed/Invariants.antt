-- Both lists are those after the events so far.
use Rattle.std.proofs.Common.{◌≡◌, take}
use Rattle.chew_spec_disk.specs.Crash.{IsCrashOf}
use Rattle.chew_spec_disk.specs.Memory.{reads_after}
use Rattle.chew_outside.specs.Events.{history_of}
use Rattle.chew_outside.proofs.mem_crash.crashed.Given as goal

abbrev pub invariant-replaying : goal.invariant-replaying
invariant-replaying l = record {
  reads : l.reads.items ≡ reads_after l.fn.first.items (history_of (take l.event-index l.events));
  left : IsCrashOf l.fn.pick (record { first = l.fn.first.items; events = history_of (take l.event-index l.events) }) l.left.items;
}
