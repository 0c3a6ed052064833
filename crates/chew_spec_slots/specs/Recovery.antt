-- What two slots recover to.
use Rattle.std.specs.Prelude.{ℕ, nat_le, nat_lt, List, length, Option, Some, None, if◌then◌else◌}
use Rattle.chew_spec_slots.specs.Reading.{SlotReading, Shut, Open, Faulty, slot_reading}
use Rattle.chew_spec_slots.specs.Slot.{Checkpoint, Saved, length_limit, no_checkpoint}

-- a checkpoint, or the first slot that is refused: too large, with its length, or open and damaged, with the place
pub data Recovery : Type 0 where
  Recovered : Checkpoint → Recovery
  TooLarge : (slot len : ℕ) → Recovery
  Damaged : (slot place : ℕ) → Recovery

-- the slot that counts, and what it stands for
pub record Newest : Type 0 where
  pub slot : ℕ
  pub saved : Saved

-- why a slot is refused, if it is
abbrev pub damage : (slot : ℕ) → SlotReading → Option Recovery
damage slot Shut = None
damage slot (Open saved) = None
damage slot (Faulty place) = Some (Damaged slot place)

abbrev pub refusal : (slot : ℕ) → List ℕ → Option Recovery
refusal slot bytes = if nat_le (length bytes) length_limit then damage slot (slot_reading bytes) else Some (TooLarge slot (length bytes))

-- the open slot with the greater seq, slot 0 of equal ones
abbrev pub newest : (zero one : SlotReading) → Option Newest
newest (Open saved) (Open other) = if nat_lt saved.seq other.seq then Some (record { slot = 1; saved = other }) else Some (record { slot = 0; saved = saved })
newest (Open saved) Shut = Some (record { slot = 0; saved = saved })
newest (Open saved) (Faulty place) = Some (record { slot = 0; saved = saved })
newest Shut (Open other) = Some (record { slot = 1; saved = other })
newest Shut Shut = None
newest Shut (Faulty place) = None
newest (Faulty place) (Open other) = Some (record { slot = 1; saved = other })
newest (Faulty place) Shut = None
newest (Faulty place) (Faulty other) = None

-- its checkpoint; the empty map where no slot is open
abbrev pub checkpoint_of : Option Newest → Checkpoint
checkpoint_of None = no_checkpoint
checkpoint_of (Some newest) = newest.saved.checkpoint

abbrev pub unless_refused : Option Recovery → Recovery → Recovery
unless_refused None next = next
unless_refused (Some refused) next = refused

-- slot 0 is treated wholly before slot 1
unfoldable pub recovered : (zero one : List ℕ) → Recovery
recovered zero one =
    unless_refused (refusal 0 zero)
    (unless_refused (refusal 1 one)
    (Recovered (checkpoint_of (newest (slot_reading zero) (slot_reading one)))))
