-- What is found on what a crash left of a disk.
use Rattle.std.specs.Prelude.{◌≡◌, ℕ, List}
use Rattle.chew_spec_disk.specs.Crash.{IsCrashOf}
use Rattle.chew_spec_disk.specs.Memory.{MemoryDisk}
use Rattle.chew_spec_slots.specs.Recovery.{Recovered, recovered}
use Rattle.chew_slots.specs.declared.recovery.Found.{Found}

-- the slots that a crash now may leave by this pick, and what they recover to
pub record IsLeft (pick : ℕ) (disk : MemoryDisk) (found : Found) : Type 0 where
  pub zero : List ℕ
  pub one : List ℕ
  pub zero_left : IsCrashOf pick disk.zero zero
  pub one_left : IsCrashOf pick disk.one one
  pub recovers : recovered zero one ≡ Recovered (record { life = found.life; rows = found.map })
