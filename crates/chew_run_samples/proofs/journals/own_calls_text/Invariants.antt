-- The text has the lines of the number's calls so far.
use Rattle.std.proofs.Common.{◌≡◌, ◌++◌, drop, map}
use Rattle.std.specs.Prelude.{flat_map}
use Rattle.chew_spec_dictionary.specs.History.{own}
use Rattle.chew_spec_text.specs.Entry.{entry_text}
use Rattle.chew_plain.specs.Call.{entry_of}
use Rattle.chew_run_samples.proofs.journals.own_calls_text.Given as goal

abbrev pub invariant-loop-entry : goal.invariant-loop-entry
invariant-loop-entry l =
    l.text.items ++ flat_map entry_text (own (map entry_of (drop l.entry-index l.journal)) l.who)
    ≡ flat_map entry_text (own (map entry_of l.journal) l.who)
