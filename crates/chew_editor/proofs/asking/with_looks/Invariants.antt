-- The calls, and a look-up of each run so far.
use Rattle.std.proofs.Common.{◌≡◌, ◌++◌, map, take}
use Rattle.chew_spec_dictionary.specs.Call as dictionary
use Rattle.chew_spec_preedit.specs.PlacedRun.{PlacedRun}
use Rattle.chew_plain.specs.Call.{call_of}
use Rattle.chew_editor.proofs.asking.with_looks.Given as goal

abbrev pub invariant-loop-run : goal.invariant-loop-run
invariant-loop-run l =
    map call_of l.calls.items ≡ map call_of l.fn.changes.items ++ map (λ (run : PlacedRun). dictionary.Look run.codes) (take l.run-index l.runs)
