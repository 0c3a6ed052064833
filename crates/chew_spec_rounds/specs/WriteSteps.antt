-- What writing a checkpoint does, its three steps taken one after the other up to the first that fails.
use Rattle.std.specs.Prelude.{◌≡◌, ◌⊎◌, ◌-◌, None, Some, IfSome, Result, MatchResult}
use Rattle.chew_spec_disk.specs.Disk.{DiskState, Later}
use Rattle.chew_spec_disk.specs.Moments.{AlwaysLeft, AlwaysMightLeave, NowLeaves}
use Rattle.chew_spec_slots.specs.Fits.{Fits, RecoversTo, RecoversToOld, RecoversToOldOrLeft}
use Rattle.chew_spec_slots.specs.Keep.{Keep, acknowledged_state, left_state}
use Rattle.chew_spec_slots.specs.Slot.{Saved}

-- all three steps are done: the state that was written counts, and recovery gives it alone; until the last call, the sync
-- of the open gate, some pair recovers to the old one
pub record IsWritten (keep : Keep) (disk : DiskState) (keep_then : Keep) (disk_then : DiskState) (saved : Saved) : Type 0 where
  pub state : acknowledged_state keep_then disk_then ≡ saved.checkpoint
  pub left : left_state keep_then disk_then ≡ None
  pub now : NowLeaves disk_then (RecoversTo saved.checkpoint)
  pub chances : AlwaysMightLeave disk.moment (disk_then.moment - 1) disk_then (RecoversToOld keep disk)

-- a step failed: the old state counts, some pair recovers to it at every moment, and no state is left but the one that was
-- left before or the one that was being written
pub record IsNotWritten (keep : Keep) (disk : DiskState) (keep_then : Keep) (disk_then : DiskState) (saved : Saved) : Type 0 where
  pub state : acknowledged_state keep_then disk_then ≡ acknowledged_state keep disk
  pub left : IfSome (left_state keep_then disk_then) (λ checkpoint. (left_state keep disk ≡ Some checkpoint) ⊎ (checkpoint ≡ saved.checkpoint))
  pub chances : AlwaysMightLeave disk.moment disk_then.moment disk_then (RecoversToOld keep disk)

-- writing: at every moment recovery gives the state that counts, the one that was left, or the one being written
pub record WritesCheckpoint {T E : Type 0} (keep : Keep) (disk : DiskState) (keep_then : Keep) (disk_then : DiskState) (saved : Saved)
    (answer : Result T E) : Type 0 where
  pub fits : Fits keep_then disk_then
  pub later : Later disk disk_then
  pub moments : AlwaysLeft disk.moment disk_then (λ zero one. RecoversToOldOrLeft keep disk zero one ⊎ RecoversTo saved.checkpoint zero one)
  pub done : MatchResult answer (λ _. IsWritten keep disk keep_then disk_then saved) (λ _. IsNotWritten keep disk keep_then disk_then saved)
