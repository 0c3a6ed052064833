-- The refusals and outcomes of the definitions that the code's stand for.
use Rattle.std.specs.Prelude.{Result, Ok, Err}
use Rattle.chew_spec_program.specs.Refusal as spec
use Rattle.chew_outside.specs.declared.source.ReadFault.{ReadFault}
use Rattle.chew_outside.specs.declared.source.ReadFault.TheVariants as read
use Rattle.chew_rows.specs.Faults as row
use Rattle.chew_rows.specs.declared.cause.RowsFault.{RowsFault}
use Rattle.chew_rows.specs.declared.cause.RowsFault.TheVariants as rows
use Rattle.chew_script.specs.Faults as script
use Rattle.chew_settings.specs.Faults as setting
use Rattle.chew_settings.specs.declared.fault.SettingsFault.{SettingsFault}
use Rattle.chew_settings.specs.declared.fault.SettingsFault.TheVariants as set
use Rattle.chew_script.specs.declared.fault.ScriptFault.{ScriptFault}
use Rattle.chew_script.specs.declared.fault.ScriptFault.TheVariants as said
use Rattle.chewing_cli.specs.declared.refusal.Refusal.{Refusal}
use Rattle.chew_slots.specs.declared.fault.SlotFault.{SlotFault}
use Rattle.chew_slots.specs.declared.fault.SlotFault.TheVariants as slot
use Rattle.chew_trie_image.specs.declared.fault.ImageFault.{ImageFault}
use Rattle.chewing_cli.specs.declared.refusal.Refusal.TheVariants.{WrongWords, WrongSettings, WrongSystem, WrongScript, WrongImage}
use Rattle.chewing_cli.specs.declared.refusal.Refusal.TheVariants.{SlotTooLarge, SlotDamaged, SourceFailed, DiskFailed, NoMemory}

abbrev pub kind_of : Refusal → spec.Refusal
kind_of WrongWords = spec.WrongWords
kind_of (WrongSettings key cause) = spec.WrongSettings (record { key = setting.name_of key; cause = setting.cause_of cause })
kind_of (WrongSystem line cause) = spec.WrongSystem (record { line = line; cause = row.cause_of cause })
kind_of (WrongScript line cause) = spec.WrongScript (record { line = line; cause = script.cause_of cause })
kind_of (WrongImage place) = spec.WrongImage place
kind_of (SlotTooLarge slot len) = spec.SlotTooLarge slot len
kind_of (SlotDamaged slot place) = spec.SlotDamaged slot place
kind_of SourceFailed = spec.SourceFailed
kind_of DiskFailed = spec.DiskFailed
kind_of NoMemory = spec.NoMemory

-- the refusals that the faults of the readers make: none of an input is told as want of memory
abbrev pub read_refusal : ReadFault → spec.Refusal
read_refusal read.Failed = spec.SourceFailed
read_refusal read.NoMemory = spec.NoMemory

abbrev pub settings_refusal : SettingsFault → spec.Refusal
settings_refusal (set.Bad key cause) = spec.WrongSettings (record { key = setting.name_of key; cause = setting.cause_of cause })
settings_refusal set.NoMemory = spec.NoMemory

abbrev pub system_refusal : RowsFault → spec.Refusal
system_refusal (rows.Bad line cause) = spec.WrongSystem (record { line = line; cause = row.cause_of cause })
system_refusal rows.NoMemory = spec.NoMemory

abbrev pub script_refusal : ScriptFault → spec.Refusal
script_refusal (said.Bad line cause) = spec.WrongScript (record { line = line; cause = script.cause_of cause })
script_refusal said.NoMemory = spec.NoMemory

abbrev pub image_refusal : ImageFault → spec.Refusal
image_refusal fault = spec.WrongImage fault.place

abbrev pub slots_refusal : SlotFault → spec.Refusal
slots_refusal slot.DiskFault = spec.DiskFailed
slots_refusal (slot.TooLarge number len) = spec.SlotTooLarge number len
slots_refusal (slot.Damaged number place) = spec.SlotDamaged number place
slots_refusal slot.NoMemory = spec.NoMemory

-- an outcome, with its value seen this way
abbrev pub outcome_of : {X Y : Type 0} → (X → Y) → Result X Refusal → Result Y spec.Refusal
outcome_of view (Ok value) = Ok (view value)
outcome_of view (Err refusal) = Err (kind_of refusal)
