-- When what is known of the slots fits a disk, so that no crash leaves a slot open and damaged.
use Rattle.std.specs.Prelude.{◌≡◌, ◌≢◌, ◌⊎◌, ℕ, ◌+◌, ◌<◌, ◌≤◌, true, false, List, length, drop, slice_index, Option, Some, None, IsSomeAnd}
use Rattle.chew_spec_disk.specs.Disk.{DiskState, IsDisk}
use Rattle.chew_spec_disk.specs.Sync.{IsSettled}
use Rattle.chew_spec_slots.specs.Keep.{Keep, acknowledged_state, is_shut, left_state, opened, other}
use Rattle.chew_spec_slots.specs.Reading.{SlotReading, Shut, Open, Faulty, is_surely_shut, slot_reading}
use Rattle.chew_spec_slots.specs.Recovery.{Recovered, recovered}
use Rattle.chew_spec_slots.specs.Slot.{Checkpoint, Saved, length_limit, open_gate}

-- the acknowledged slot is the one that isn't the target; where there is none, the target is slot 0
abbrev pub IsApart : Option ℕ → (target seq : ℕ) → Type 0
IsApart None target seq = (target ≡ 0) × (seq ≡ 0)
IsApart (Some slot) target seq = slot ≡ other target

-- the slot that isn't the target reads as the acknowledged one, or is shut where there is none
abbrev pub Stands : Option ℕ → (seq : ℕ) → SlotReading → Type 0
Stands None seq reading = reading ≡ Shut
Stands (Some slot) seq (Open saved) = saved.seq ≡ seq
Stands (Some slot) seq Shut = ⊥
Stands (Some slot) seq (Faulty place) = ⊥

-- an open target would not count: its seq is smaller, or equal where the target is slot 1
abbrev pub Loses : Keep → (seq : ℕ) → Type 0
Loses keep seq = (seq < keep.seq) ⊎ ((keep.target ≡ 1) × (seq ≡ keep.seq))

-- a target with its gate open is still shut, or would not count, or is the next one
abbrev pub MayOpen : Keep → SlotReading → Type 0
MayOpen keep Shut = Unit {0}
MayOpen keep (Open saved) = Loses keep saved.seq ⊎ (saved.seq ≡ keep.seq + 1)
MayOpen keep (Faulty place) = ⊥

-- a target whose gate is surely shut: it has a gate, which is shut, and any bytes behind it
pub record IsBehindGate (list : List ℕ) : Type 0 where
  pub gate : 1 ≤ length list
  pub shut : slice_index list 0 ≢ open_gate
  pub fits : length list ≤ length_limit

-- a target whose gate isn't surely shut: any gate, and the bytes behind it as they read
pub record IsAnyGate (reads list : List ℕ) : Type 0 where
  pub behind : drop 1 list ≡ drop 1 reads
  pub fits : length list ≤ length_limit

-- a target that doesn't count
abbrev pub DoesNotCount : Keep → SlotReading → Type 0
DoesNotCount keep Shut = Unit {0}
DoesNotCount keep (Open saved) = Loses keep saved.seq
DoesNotCount keep (Faulty place) = ⊥

-- what is known of the slots fits what a disk tells
pub record Fits (keep : Keep) (disk : DiskState) : Type 0 where
  pub is_disk : IsDisk disk
  pub target : keep.target < 2
  pub apart : IsApart keep.acknowledged keep.target keep.seq
  -- the slot that counts can't be lost
  pub settled : IsSettled disk (other keep.target)
  pub kept_fits : length (disk.reads (other keep.target)) ≤ length_limit
  pub stands : Stands keep.acknowledged keep.seq (slot_reading (disk.reads (other keep.target)))
  pub kept_gate : is_shut keep (other keep.target) ≡ is_surely_shut (disk.reads (other keep.target))
  -- whatever a crash leaves of the target, it is not open and damaged
  pub shut : is_shut keep keep.target ≡ true → (list : List ℕ) → disk.may_leave keep.target list → IsBehindGate list
  pub unsure : is_shut keep keep.target ≡ false → (list : List ℕ) → disk.may_leave keep.target list → IsAnyGate (disk.reads keep.target) list
  pub opens : is_shut keep keep.target ≡ false → MayOpen keep (slot_reading (opened (disk.reads keep.target)))
  -- a crash may leave the acknowledged state
  pub old : (list : List ℕ) × disk.may_leave keep.target list × DoesNotCount keep (slot_reading list)

-- a checkpoint was written behind the target's gate, which is surely shut, and can't be lost: with the gate open the slot
-- would stand for it with the next seq
pub record IsFilled (keep : Keep) (disk : DiskState) (saved : Saved) : Type 0 where
  pub shut : is_shut keep keep.target ≡ true
  pub settled : IsSettled disk keep.target
  pub opens : slot_reading (opened (disk.reads keep.target)) ≡ Open saved
  pub next : saved.seq ≡ keep.seq + 1

-- two slots recover to the acknowledged state, or to the left one
abbrev pub RecoversTo : Checkpoint → (zero one : List ℕ) → Type 0
RecoversTo checkpoint zero one = recovered zero one ≡ Recovered checkpoint

abbrev pub RecoversToOld : Keep → DiskState → (zero one : List ℕ) → Type 0
RecoversToOld keep disk zero one = RecoversTo (acknowledged_state keep disk) zero one

abbrev pub RecoversToOldOrLeft : Keep → DiskState → (zero one : List ℕ) → Type 0
RecoversToOldOrLeft keep disk zero one =
    RecoversToOld keep disk zero one ⊎ IsSomeAnd (left_state keep disk) (λ checkpoint. RecoversTo checkpoint zero one)
