-- What recovery answers.
use Rattle.std.specs.Prelude.{◌≡◌, ℕ, Bool, true, false, List, None, Result, Ok, Err}
use Rattle.chew_spec_slots.specs.Keep.{Keep as KeepState}
use Rattle.chew_spec_slots.specs.Reading.{is_surely_shut, slot_reading}
use Rattle.chew_spec_slots.specs.Recovery.{Recovery, Recovered, refusal, unless_refused}
use Rattle.chew_slots.specs.Contents.{reading_of}
use Rattle.chew_slots.specs.declared.fault.SlotFault.{SlotFault}
use Rattle.chew_slots.specs.declared.fault.SlotFault.TheVariants.{DiskFault, TooLarge, Damaged, NoMemory}
use Rattle.chew_slots.specs.declared.slot_read.SlotRead.{SlotRead}
use Rattle.chew_slots.specs.declared.recovery.Found.{Found}

-- whether the disk failed
abbrev pub disk_failed : {T : Type 0} → Result T SlotFault → Bool
disk_failed (Ok value) = false
disk_failed (Err DiskFault) = true
disk_failed (Err (TooLarge slot len)) = false
disk_failed (Err (Damaged slot place)) = false
disk_failed (Err NoMemory) = false

-- a fault other than the disk's and want of memory is the refusal of two slots
abbrev pub TellsRefusal : Recovery → SlotFault → Type 0
TellsRefusal recovery DiskFault = Unit {0}
TellsRefusal recovery (TooLarge slot len) = recovery ≡ Recovery.TooLarge slot len
TellsRefusal recovery (Damaged slot place) = recovery ≡ Recovery.Damaged slot place
TellsRefusal recovery NoMemory = Unit {0}

-- what was found is what the slots recover to, and what is known of them
abbrev pub Answers : Recovery → KeepState → Result Found SlotFault → Type 0
Answers recovery keep (Ok found) = (recovery ≡ Recovered (record { life = found.life; rows = found.map })) × (found.keep ≡ keep)
Answers recovery keep (Err fault) = TellsRefusal recovery fault

-- the bytes of a slot, which are those of the disk where it tells them
abbrev pub AreTold : (told : Bool) → (reads bytes : List ℕ) → Type 0
AreTold told reads bytes = told ≡ true → bytes ≡ reads

-- what was read of one slot that isn't refused
pub record IsRead (slot : ℕ) (bytes : List ℕ) (read : SlotRead) : Type 0 where
  pub fine : refusal slot bytes ≡ None
  pub reading : slot_reading bytes ≡ reading_of read.stored
  pub gate : is_surely_shut bytes ≡ read.is_shut

-- what one slot is read as, or refused
abbrev pub ReadsAs : (slot : ℕ) → List ℕ → Result SlotRead SlotFault → Type 0
ReadsAs slot bytes (Ok read) = IsRead slot bytes read
ReadsAs slot bytes (Err fault) = (behind : Recovery) → TellsRefusal (unless_refused (refusal slot bytes) behind) fault
