-- What recovery finds on what a crash left.
use Rattle.std.proofs.Common.{◌≡◌, ◌∙◌, ℕ, List, [], Ok, Err, None, Result, ap, refl, subst, sym, true}
use Rattle.std.specs.Prelude.{IfOk}
use Rattle.chew_spec_disk.specs.Crash.{IsCrashOf}
use Rattle.chew_spec_disk.specs.Memory.{MemoryDisk, disk_state, new_disk}
use Rattle.chew_spec_slots.specs.Keep.{found_keep}
use Rattle.chew_spec_slots.specs.Recovery.{recovered}
use Rattle.chew_slots.specs.Answers.{Answers, AreTold}
use Rattle.chew_slots.specs.declared.fault.SlotFault.{SlotFault}
use Rattle.chew_slots.specs.declared.recovery.Found.{Found}
use Rattle.chew_run_samples.specs.CrashFinds.{IsLeft}

-- the slots of a new disk are read as they are
pub found_left : (pick : ℕ) (disk image : MemoryDisk) (zero one : List ℕ) (found : Result Found SlotFault)
    → IsCrashOf pick disk.zero image.zero.first → IsCrashOf pick disk.one image.one.first
    → image ≡ new_disk image.zero.first image.one.first (record { at = []; from = None })
    → AreTold true ((disk_state image).reads 0) zero → AreTold true ((disk_state image).reads 1) one
    → Answers (recovered zero one) (found_keep zero one) found → IfOk found (IsLeft pick disk)
found_left pick disk image zero one (Ok found) zero_left one_left new read_zero read_one answers =
    let is_zero : zero ≡ image.zero.first = read_zero refl ∙ ap (λ (d : MemoryDisk). (disk_state d).reads 0) new in
    let is_one : one ≡ image.one.first = read_one refl ∙ ap (λ (d : MemoryDisk). (disk_state d).reads 1) new in
    record {
      zero = zero;
      one = one;
      zero_left = subst (IsCrashOf pick disk.zero) (sym is_zero) zero_left;
      one_left = subst (IsCrashOf pick disk.one) (sym is_one) one_left;
      recovers = answers.0;
    }
found_left pick disk image zero one (Err fault) zero_left one_left new read_zero read_one answers = tt
