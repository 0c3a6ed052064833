-- What the bytes of a slot hold, as the code keeps it.
use Rattle.std.specs.Prelude.{◌≡◌, Option, Some, None}
use Rattle.chew_spec_slots.specs.Reading.{SlotReading, Shut, Open, Faulty}
use Rattle.chew_spec_slots.specs.Slot.{Saved}
use Rattle.chew_slots.specs.declared.stored.StoredFault.{StoredFault}
use Rattle.chew_slots.specs.declared.stored.StoredFault.TheVariants.{Damaged, NoMemory}

-- no checkpoint is a slot that is shut
abbrev pub reading_of : Option Saved → SlotReading
reading_of None = Shut
reading_of (Some saved) = Open saved

-- a fault other than want of memory tells where a slot is damaged
abbrev pub TellsFaulty : SlotReading → StoredFault → Type 0
TellsFaulty reading (Damaged place) = reading ≡ Faulty place
TellsFaulty reading NoMemory = Unit {0}
