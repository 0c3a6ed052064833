-- What the code's Outcome stands for, and what a key asks of what is typed then.
use Rattle.std.specs.Prelude.{ℕ, List, [], None}
use Rattle.chew_spec_dictionary.specs.Call.{Call}
use Rattle.chew_spec_text.specs.Line.{Note}
use Rattle.chew_spec_editor.specs.Pending.{Pending}
use Rattle.chew_spec_editor.specs.Press as spec
use Rattle.chew_editor.specs.State.{editor_of, state_of}
use Rattle.chew_editor.specs.declared.state.Typing.{Typing}
use Rattle.chew_editor.specs.declared.outcome.Outcome.{Outcome}
use Rattle.chew_editor.specs.declared.outcome.Outcome.TheVariants.{Done, Ask}

abbrev pub outcome_of : Outcome → spec.Pressed
outcome_of (Done state line) = spec.Done (state_of state) line
outcome_of (Ask asked) = spec.Ask asked

-- these changes, and a look-up of all runs of what is typed
abbrev pub asked_by : Typing → List Call → List ℕ → Note → Pending
asked_by typing changes commit note = record { editor = editor_of typing [] None; changes = changes; commit = commit; note = note; opens = None }
