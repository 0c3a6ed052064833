-- What is known of the slots between two checkpoints, and the states that it has on a disk.
use Rattle.std.specs.Prelude.{ℕ, ◌+◌, ◌-◌, Bool, false, ◌==◌, List, ◌∷◌, drop, Option, Some, None, if◌then◌else◌}
use Rattle.chew_spec_disk.specs.Disk.{DiskState}
use Rattle.chew_spec_slots.specs.Reading.{SlotReading, Shut, Open, Faulty, is_surely_shut, slot_reading}
use Rattle.chew_spec_slots.specs.Recovery.{Newest, newest}
use Rattle.chew_spec_slots.specs.Slot.{Checkpoint, no_checkpoint, open_gate}

pub record Keep : Type 0 where
  -- the slot that counts, where one does, and its seq; 0 where none does
  pub acknowledged : Option ℕ
  pub seq : ℕ
  -- the slot that the next checkpoint is written to, and whether the gate of each slot is surely shut
  pub target : ℕ
  pub zero_shut : Bool
  pub one_shut : Bool

-- the other of two slots
abbrev pub other : ℕ → ℕ
other slot = 1 - slot

-- the gate of a slot is surely shut
abbrev pub is_shut : Keep → (slot : ℕ) → Bool
is_shut keep slot = if slot == 0 then keep.zero_shut else keep.one_shut

-- the same, with the gate of a slot surely shut or not
abbrev pub with_shut : Keep → (slot : ℕ) → Bool → Keep
with_shut keep slot shut = record {
  acknowledged = keep.acknowledged;
  seq = keep.seq;
  target = keep.target;
  zero_shut = if slot == 0 then shut else keep.zero_shut;
  one_shut = if slot == 0 then keep.one_shut else shut;
}

-- after a checkpoint was written: the target counts, with the next seq, and the other slot is the target
abbrev pub advanced : Keep → Keep
advanced keep = record {
  acknowledged = Some keep.target;
  seq = keep.seq + 1;
  target = other keep.target;
  zero_shut = if keep.target == 0 then false else keep.zero_shut;
  one_shut = if keep.target == 0 then keep.one_shut else false;
}

abbrev pub keep_for : (zero_shut one_shut : Bool) → Option Newest → Keep
keep_for zero_shut one_shut None = record { acknowledged = None; seq = 0; target = 0; zero_shut = zero_shut; one_shut = one_shut }
keep_for zero_shut one_shut (Some newest) = record {
  acknowledged = Some newest.slot;
  seq = newest.saved.seq;
  target = other newest.slot;
  zero_shut = zero_shut;
  one_shut = one_shut;
}

-- what recovery knows of two slots
abbrev pub found_keep : (zero one : List ℕ) → Keep
found_keep zero one = keep_for (is_surely_shut zero) (is_surely_shut one) (newest (slot_reading zero) (slot_reading one))

-- a slot whose gate is open
abbrev pub opened : List ℕ → List ℕ
opened bytes = open_gate ∷ drop 1 bytes

-- the checkpoint that an open slot stands for; the empty map of any other
abbrev pub checkpoint_in : SlotReading → Checkpoint
checkpoint_in (Open saved) = saved.checkpoint
checkpoint_in Shut = no_checkpoint
checkpoint_in (Faulty place) = no_checkpoint

-- the state that counts: that of the acknowledged slot, as it reads; the empty map where there is none
abbrev pub slot_checkpoint : DiskState → Option ℕ → Checkpoint
slot_checkpoint disk None = no_checkpoint
slot_checkpoint disk (Some slot) = checkpoint_in (slot_reading (disk.reads slot))

abbrev pub acknowledged_state : Keep → DiskState → Checkpoint
acknowledged_state keep disk = slot_checkpoint disk keep.acknowledged

-- the checkpoint of an open slot with this seq
abbrev pub with_seq : (seq : ℕ) → SlotReading → Option Checkpoint
with_seq seq (Open saved) = if saved.seq == seq then Some saved.checkpoint else None
with_seq seq Shut = None
with_seq seq (Faulty place) = None

-- the state that a failed checkpoint left, which an open gate would bring up: that of the target with its gate open, where
-- the gate isn't surely shut and the seq is the next one
abbrev pub left_state : Keep → DiskState → Option Checkpoint
left_state keep disk = if is_shut keep keep.target then None else with_seq (keep.seq + 1) (slot_reading (opened (disk.reads keep.target)))
