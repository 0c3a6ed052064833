-- What a run stands on that was opened, and how it ends.
use Rattle.std.specs.Prelude.{◌≡◌, ◌⊎◌, ◌≤◌, ℕ, Bool, true, List, [], All, IsTrue, MatchResult, length}
use Rattle.std.specs.List.{list_all}
use Rattle.chew_spec_disk.specs.Disk.{Later}
use Rattle.chew_spec_syllable.specs.Row.{is_row}
use Rattle.chew_spec_dictionary.specs.Dictionary.{Dictionary}
use Rattle.chew_spec_text.specs.KeyStroke.{KeyStroke, is_key_stroke}
use Rattle.chew_spec_editor.specs.Invariant.{is_settings}
use Rattle.chew_spec_slots.specs.Keep.{Keep}
use Rattle.chew_spec_rounds.specs.InStep.{IsInStep}
use Rattle.chew_spec_rounds.specs.Session as rounds
use Rattle.chew_spec_session.specs.Context.{Basis}
use Rattle.chew_spec_session.specs.Session as sessions
use Rattle.chew_spec_session.specs.Session.{IsSession}
use Rattle.chew_spec_program.specs.Crash.{IsKept}
use Rattle.chew_spec_program.specs.Opening.{Inputs}
use Rattle.chew_spec_program.specs.Refusal.{NoMemory}
use Rattle.chew_spec_program.specs.Run.{Ended, IsRefused, IsRun, Outside}
use Rattle.chew_spec_program.specs.Slots.{CountsFaults, Kept}
use Rattle.chew_spec_program.specs.Writing.{Sunk}
use Rattle.chew_session.specs.Saving.{IsUntouched}
use Rattle.chewing_cli.specs.PrintedLines.{Finishes}

-- what a run stands on that was opened: settings in their ranges, rows of the user's dictionary, and a script within its limits
pub record MayRun (inputs : Inputs) : Type 0 where
  pub in_range : IsTrue (is_settings inputs.basis.settings)
  pub pairs : IsTrue (list_all is_row inputs.basis.start.dictionary.pairs)
  pub few_pairs : length inputs.basis.start.dictionary.pairs ≤ 200_000
  pub contexts : length inputs.script.contexts ≤ 16
  pub few_keys : All (λ keys. length keys ≤ 65_536) inputs.script.contexts
  pub keys : IsTrue (list_all (list_all is_key_stroke) inputs.script.contexts)
  pub rounds : inputs.script.rounds ≤ 64

-- a session over a disk of whose slots this is known: its rounds count the disk's faults; and where the disk tells its content
-- and the slots are in step with the dictionary, a crash leaves the map after a front of the history, never shorter
pub record Leaves (basis : Basis) (contexts : List (List KeyStroke)) (asked : ℕ) (keep : Keep) (disk : Kept) (session : sessions.Ended) : Type 0 where
  pub is_session : IsSession basis contexts asked keep.seq session
  pub faults : CountsFaults session.rounds disk
  pub later : disk.told ≡ true → Later disk.before disk.now
  pub untouched : session.rounds ≡ [] → IsUntouched disk.before disk.now
  pub crash : disk.told ≡ true → IsInStep keep disk.before basis.start.dictionary []
      → rounds.IsSession basis.start.dictionary session.journal disk.before.moment disk.now session.rounds

-- such a session over these inputs, whose output was written
pub record Ran (inputs : Inputs) (trace : Bool) (keep : Keep) (sink : Sunk) (disk : Kept) (ended : Ended) : Type 0 where
  pub session : sessions.Ended
  pub leaves : Leaves inputs.basis inputs.script.contexts inputs.script.rounds keep disk session
  pub finishes : Finishes trace session sink ended

-- memory was wanting before the first key, and nothing was asked of the disk
pub record WantedMemory (sink : Sunk) (disk : Kept) (ended : Ended) : Type 0 where
  pub refused : IsRefused NoMemory sink ended
  pub untouched : IsUntouched disk.before disk.now
  pub calm : disk.faults_now ≡ disk.faults_before

-- what was opened ends so, over the disk that its slots were read of
abbrev pub EndsOpened : Inputs → (trace : Bool) → Keep → Sunk → Kept → Ended → Type 0
EndsOpened inputs trace keep sink disk ended = Ran inputs trace keep sink disk ended ⊎ WantedMemory sink disk ended

-- a run, and what it keeps of the user's dictionary: that of a run that was opened from the dictionary that it stands on, and
-- that of one that was refused from any
pub record IsKeptRun (words : List (List ℕ)) (outside : Outside) (ended : Ended) : Type 0 where
  pub run : IsRun words outside ended
  pub kept : (start : Dictionary) → MatchResult run.opened (λ inputs. start ≡ inputs.basis.start.dictionary) (λ _. Unit {0})
      → IsKept start ended.journal ended.rounds ended.status outside.disk
