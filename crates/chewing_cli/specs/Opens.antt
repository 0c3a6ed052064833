-- What was read of an input and what it gives, and what the inputs of a run give.
use Rattle.std.specs.Prelude.{◌≡◌, ◌⊎◌, ℕ, Bool, true, List, [], Option, Result, Err}
use Rattle.chew_spec_syllable.specs.Row.{Row}
use Rattle.chew_spec_disk.specs.Disk.{IsDisk}
use Rattle.chew_spec_disk.specs.Sync.{IsSettled}
use Rattle.chew_spec_dictionary.specs.Dictionary.{Dictionary}
use Rattle.chew_spec_editor.specs.Settings.{Settings}
use Rattle.chew_spec_settings.specs.SettingsText.{settings_limit}
use Rattle.chew_spec_rounds.specs.InStep.{IsInStep}
use Rattle.chew_spec_program.specs.Opening.{Found, Inputs, inputs_with, settings_value, slots_value, value_of}
use Rattle.chew_spec_program.specs.Reading.{IsRead, IsReadWhere, Watched}
use Rattle.chew_spec_program.specs.Refusal.{Refusal, NoMemory}
use Rattle.chew_spec_program.specs.Slots.{AreRead, IsUnwritten, Kept, Slots}
use Rattle.chew_slots.specs.declared.recovery.Found.{Found as FoundSlots}
use Rattle.chewing_cli.specs.declared.opening.Opened.{Opened}
use Rattle.chewing_cli.specs.declared.system.System.{System}
use Rattle.chewing_cli.specs.declared.system.System.TheVariants.{Image, Text}

-- the rows of a system, of a text or of an image
abbrev pub rows_of : System → List Row
rows_of (Text map) = map
rows_of (Image trie) = trie

-- what recovery found, as the definitions see it
abbrev pub found_of : FoundSlots → Found
found_of found = record { checkpoint = record { life = found.life; rows = found.map }; seq = found.keep.seq }

-- the inputs as the definitions see them
abbrev pub inputs_of : Opened → Inputs
inputs_of opened = inputs_with opened.settings (rows_of opened.system) opened.script (found_of opened.found)

-- memory was wanting, or the outcome is this
abbrev pub IsOrNoMemory : {X : Type 0} → Result X Refusal → Result X Refusal → Type 0
IsOrNoMemory wanted outcome = (outcome ≡ Err NoMemory) ⊎ (outcome ≡ wanted)

-- a text was read of the source, and its value is the outcome
pub record Reads {X : Type 0} (value : List ℕ → Result X Refusal) (limit : ℕ) (source : Watched) (outcome : Result X Refusal) : Type 0 where
  pub text : Option (List ℕ)
  pub read : IsRead source limit text
  pub gives : outcome ≡ value_of value text

-- the same, or memory was wanting
abbrev pub ReadsOrNoMemory : {X : Type 0} → (List ℕ → Result X Refusal) → ℕ → Watched → Result X Refusal → Type 0
ReadsOrNoMemory value limit source outcome = (outcome ≡ Err NoMemory) ⊎ Reads value limit source outcome

-- settings were read of the source where they are named, and else they are the standard ones
pub record Sets (named : Bool) (source : Watched) (outcome : Result Settings Refusal) : Type 0 where
  pub text : Option (List ℕ)
  pub read : IsReadWhere named source settings_limit text
  pub gives : outcome ≡ settings_value named text

abbrev pub SetsOrNoMemory : Bool → Watched → Result Settings Refusal → Type 0
SetsOrNoMemory named source outcome = (outcome ≡ Err NoMemory) ⊎ Sets named source outcome

-- the slots were read, and what they recover to is the outcome
pub record Finds (disk : Kept) (outcome : Result Found Refusal) : Type 0 where
  pub slots : Option Slots
  pub read : AreRead disk slots
  pub gives : outcome ≡ slots_value slots

abbrev pub FindsOrNoMemory : Kept → Result Found Refusal → Type 0
FindsOrNoMemory disk outcome = (outcome ≡ Err NoMemory) ⊎ Finds disk outcome

-- the disk once its slots were recovered: nothing failed and nothing was written; and where nothing was pending as the run
-- began, what is known of the slots is in step with the dictionary that was recovered
pub record IsReady (disk : Kept) (found : FoundSlots) : Type 0 where
  pub calm : disk.faults_now ≡ disk.faults_before
  pub unwritten : disk.told ≡ true → IsUnwritten disk.before disk.now
  pub is_disk : disk.told ≡ true → IsDisk disk.now
  pub in_step : (start : Dictionary) → start.pairs ≡ found.map → start.life ≡ found.life
      → disk.told ≡ true → IsSettled disk.before 0 → IsSettled disk.before 1 → IsInStep found.keep disk.now start []
