-- What a run sees of the disk that keeps the user's dictionary in two slots.
use Rattle.std.specs.Prelude.{◌≡◌, ◌≢◌, ◌↔◌, ℕ, ◌<◌, ◌≤◌, Bool, true, false, List, Option, IfSome, IsNone}
use Rattle.chew_spec_outside.specs.Faults.{Rose}
use Rattle.chew_spec_disk.specs.Disk.{DiskState, Later, last_moment}
use Rattle.chew_spec_rounds.specs.Round.{Round}
use Rattle.chew_spec_session.specs.LastRounds.{disk_faults}
use Rattle.chew_spec_session.specs.Session.{RoseBy}
use Rattle.chew_spec_program.specs.Refusal.{Refusal, DiskFailed}

-- a disk over a call: whether it tells its content, this content before and now, and its count of faults before and now
pub record Kept : Type 1 where
  pub told : Bool
  pub before : DiskState
  pub now : DiskState
  pub faults_before : ℕ
  pub faults_now : ℕ

abbrev pub kept : (told : Bool) (before now : DiskState) (faults_before faults_now : ℕ) → Kept
kept told before now faults_before faults_now =
    record { told = told; before = before; now = now; faults_before = faults_before; faults_now = faults_now }

-- the bytes of both slots
pub record Slots : Type 0 where
  pub zero : List ℕ
  pub one : List ℕ

-- what reads give of them
abbrev pub slots_of : DiskState → Slots
slots_of disk = record { zero = disk.reads 0; one = disk.reads 1 }

-- nothing was written from one time to another: reads give what they gave, and at each moment between a crash left what it
-- might have left at first
pub record IsUnwritten (before now : DiskState) : Type 0 where
  pub later : Later before now
  pub reads : (slot : ℕ) → now.reads slot ≡ before.reads slot
  pub outcomes : (slot : ℕ) (list : List ℕ) → now.may_leave slot list ↔ before.may_leave slot list
  pub between : now.moment < last_moment → (moment slot : ℕ) (list : List ℕ) → before.moment < moment → moment ≤ now.moment →
      now.might_have_left moment slot list ↔ before.may_leave slot list

-- the disk is as it was: none of its calls was made
pub record IsUncalled (disk : Kept) : Type 0 where
  pub moment : disk.told ≡ true → disk.now.moment ≡ disk.before.moment
  pub unwritten : disk.told ≡ true → IsUnwritten disk.before disk.now
  pub faults : disk.faults_now ≡ disk.faults_before

-- recovery read these slots, which are what reads give of them as the run begins where the disk tells that; or none, where
-- its count rose
pub record AreRead (disk : Kept) (slots : Option Slots) : Type 0 where
  pub told : disk.told ≡ true → IfSome slots (λ read. read ≡ slots_of disk.before)
  pub failed : IsNone slots → Rose disk.faults_before disk.faults_now

-- recovery read the slots where this holds, and else the disk is as it was
pub record AreReadWhere (reads : Bool) (disk : Kept) (slots : Option Slots) : Type 0 where
  pub read : reads ≡ true → AreRead disk slots
  pub unread : reads ≡ false → IsUncalled disk

-- a run that is refused leaves the disk unwritten, and its count of faults as it was but where the disk failed
pub record SparesDisk (refusal : Refusal) (disk : Kept) : Type 0 where
  pub unwritten : disk.told ≡ true → IsUnwritten disk.before disk.now
  pub calm : refusal ≢ DiskFailed → disk.faults_now ≡ disk.faults_before

-- the disk's count of faults rose by the number of rounds in which the disk failed, at least, and is as it was where there
-- is none
pub record CountsFaults (rounds : List Round) (disk : Kept) : Type 0 where
  pub rose : RoseBy (disk_faults rounds) disk.faults_before disk.faults_now
  pub calm : disk_faults rounds ≡ 0 → disk.faults_now ≡ disk.faults_before
