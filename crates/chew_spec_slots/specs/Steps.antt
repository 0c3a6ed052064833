-- What the three steps of a checkpoint do: the target's gate is shut, its body filled, and its gate lifted.
use Rattle.std.specs.Prelude.{◌≡◌, ◌⊎◌, ◌+◌, ◌<◌, None, Some, Result, MatchResult, OnOk}
use Rattle.chew_spec_disk.specs.Disk.{DiskState, last_moment}
use Rattle.chew_spec_disk.specs.Moments.{AlwaysLeft, AlwaysMightLeave, NowLeaves}
use Rattle.chew_spec_slots.specs.Fits.{Fits, IsFilled, RecoversTo, RecoversToOld, RecoversToOldOrLeft}
use Rattle.chew_spec_slots.specs.Keep.{Keep, acknowledged_state, left_state}
use Rattle.chew_spec_slots.specs.Slot.{Saved}

-- shutting the gate: at every moment recovery gives the state that counts, or the one that was left; once done there is
-- no such state, and until then it stays
pub record ShutsGate {T E : Type 0} (keep : Keep) (disk : DiskState) (keep_then : Keep) (disk_then : DiskState) (answer : Result T E) : Type 0 where
  pub fits : Fits keep_then disk_then
  pub state : acknowledged_state keep_then disk_then ≡ acknowledged_state keep disk
  pub left : MatchResult answer (λ _. left_state keep_then disk_then ≡ None) (λ _. left_state keep_then disk_then ≡ left_state keep disk)
  pub moments : AlwaysLeft disk.moment disk_then (RecoversToOldOrLeft keep disk)
  pub chances : AlwaysMightLeave disk.moment disk_then.moment disk_then (RecoversToOld keep disk)

-- filling the body: at every moment recovery gives the state that counts; once done the body can't be lost
pub record FillsBody {T E : Type 0} (keep : Keep) (disk : DiskState) (disk_then : DiskState) (saved : Saved) (answer : Result T E) : Type 0 where
  pub fits : Fits keep disk_then
  pub state : acknowledged_state keep disk_then ≡ acknowledged_state keep disk
  pub left : left_state keep disk_then ≡ None
  pub filled : OnOk answer (IsFilled keep disk_then saved)
  pub moments : AlwaysLeft disk.moment disk_then (RecoversToOld keep disk)
  pub chances : AlwaysMightLeave disk.moment disk_then.moment disk_then (RecoversToOld keep disk)

-- a lifted gate: the state that was written counts, and recovery gives it alone; until the gate was synced the old one
-- might have been left
pub record LiftedGate (keep : Keep) (disk : DiskState) (keep_then : Keep) (disk_then : DiskState) (saved : Saved) : Type 0 where
  pub state : acknowledged_state keep_then disk_then ≡ saved.checkpoint
  pub left : left_state keep_then disk_then ≡ None
  pub now : NowLeaves disk_then (RecoversTo saved.checkpoint)
  pub chances : disk_then.moment < last_moment → AlwaysMightLeave disk.moment (disk.moment + 1) disk_then (RecoversToOld keep disk)

-- a gate that was not lifted for sure: the old state counts, and the one that was written is left
pub record LeftGate (keep : Keep) (disk : DiskState) (keep_then : Keep) (disk_then : DiskState) (saved : Saved) : Type 0 where
  pub state : acknowledged_state keep_then disk_then ≡ acknowledged_state keep disk
  pub left : left_state keep_then disk_then ≡ Some saved.checkpoint
  pub chances : AlwaysMightLeave disk.moment disk_then.moment disk_then (RecoversToOld keep disk)

-- lifting the gate: at every moment recovery gives the state that counts, or the one that was written
pub record LiftsGate {T E : Type 0} (keep : Keep) (disk : DiskState) (keep_then : Keep) (disk_then : DiskState) (saved : Saved)
    (answer : Result T E) : Type 0 where
  pub fits : Fits keep_then disk_then
  pub moments : AlwaysLeft disk.moment disk_then (λ zero one. RecoversToOld keep disk zero one ⊎ RecoversTo saved.checkpoint zero one)
  pub done : MatchResult answer (λ _. LiftedGate keep disk keep_then disk_then saved) (λ _. LeftGate keep disk keep_then disk_then saved)
