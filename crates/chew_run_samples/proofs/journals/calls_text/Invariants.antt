-- The text has the lines of the calls so far.
use Rattle.std.proofs.Common.{◌≡◌, ◌++◌, drop, map}
use Rattle.std.specs.Prelude.{flat_map}
use Rattle.chew_spec_text.specs.Entry.{entry_text}
use Rattle.chew_plain.specs.Call.{entry_of}
use Rattle.chew_run_samples.proofs.journals.calls_text.Given as goal

abbrev pub invariant-loop-entry : goal.invariant-loop-entry
invariant-loop-entry l =
    l.text.items ++ flat_map entry_text (map entry_of (drop l.entry-index l.journal)) ≡ flat_map entry_text (map entry_of l.journal)
