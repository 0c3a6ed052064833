-- What recovery finds, and what it leaves of the disk.
use Rattle.std.specs.Prelude.{◌≡◌, ℕ, Bool, true, false, List, [], Option, Some, None, Result, Ok, Err, IfSome, IsSomeAnd}
use Rattle.std.proofs.Common.{refl, ap, ap₂, sym, subst, inl, inr, ◌∙◌}
use Rattle.chew_spec_syllable.specs.Row.{Row}
use Rattle.chew_spec_outside.specs.Faults.{HasCause}
use Rattle.chew_spec_disk.specs.Disk.{DiskState, IsDisk}
use Rattle.chew_spec_disk.specs.Sync.{IsSettled}
use Rattle.chew_spec_dictionary.specs.Dictionary.{Dictionary}
use Rattle.chew_spec_slots.specs.Fits.{Fits}
use Rattle.chew_spec_slots.specs.Keep.{Keep, acknowledged_state, found_keep, left_state}
use Rattle.chew_spec_slots.specs.Recovery.{Recovered, recovered}
use Rattle.chew_spec_slots.specs.Slot.{Checkpoint}
use Rattle.chew_spec_rounds.specs.Front.{front_checkpoint, shape_after}
use Rattle.chew_spec_rounds.specs.InStep.{IsInStep}
use Rattle.chew_spec_program.specs.Opening as opening
use Rattle.chew_spec_program.specs.Opening.{found_or_refusal}
use Rattle.chew_spec_program.specs.Refusal.{Refusal}
use Rattle.chew_spec_program.specs.Slots.{IsUnwritten, Slots, SparesDisk, kept, slots_of}
use Rattle.chew_slots.specs.Answers.{AreTold, TellsRefusal, disk_failed}
use Rattle.chew_slots.specs.ReadOnly.{IsUntouched}
use Rattle.chew_slots.specs.declared.fault.SlotFault.{SlotFault}
use Rattle.chew_slots.specs.declared.fault.SlotFault.TheVariants.{DiskFault, TooLarge, Damaged, NoMemory}
use Rattle.chew_slots.specs.declared.recovery.Found.{Found}
use Rattle.chewing_cli.specs.Opens.{Finds, FindsOrNoMemory, IsReady}
use Rattle.chewing_cli.specs.Refusals.{slots_refusal}

-- two slots with these bytes
abbrev pair_of : (zero one : List ℕ) → Slots
pair_of zero one = record { zero = zero; one = one }

-- slots that were read are what reads give, where the disk tells it
read_slots : (told : Bool) (before : DiskState) (zero one : List ℕ) → AreTold told (before.reads 0) zero → AreTold told (before.reads 1) one
    → told ≡ true → pair_of zero one ≡ slots_of before
read_slots told before zero one first second is = ap₂ pair_of (first is) (second is)

-- an answer of recovery by the bytes of the slots
finds_read : (told : Bool) (before now : DiskState) (faults_before faults_now : ℕ) (zero one : List ℕ) (outcome : Result opening.Found Refusal)
    → AreTold told (before.reads 0) zero → AreTold told (before.reads 1) one
    → outcome ≡ found_or_refusal (found_keep zero one).seq (recovered zero one)
    → Finds (kept told before now faults_before faults_now) outcome
finds_read told before now faults_before faults_now zero one outcome first second is = record {
  slots = Some (pair_of zero one);
  read = record { told = read_slots told before zero one first second; failed = λ none. absurd cc };
  gives = is;
}

-- what was found
pub finds_found : (told : Bool) (before now : DiskState) (faults_before faults_now : ℕ) (zero one : List ℕ) (checkpoint : Checkpoint) (keep : Keep)
    → AreTold told (before.reads 0) zero → AreTold told (before.reads 1) one → recovered zero one ≡ Recovered checkpoint → keep ≡ found_keep zero one
    → FindsOrNoMemory (kept told before now faults_before faults_now) (Ok (record { checkpoint = checkpoint; seq = keep.seq }))
finds_found told before now faults_before faults_now zero one checkpoint keep first second is same =
    inr (finds_read told before now faults_before faults_now zero one (found_or_refusal keep.seq (Recovered checkpoint)) first second
    (ap (λ (k : Keep). found_or_refusal k.seq (Recovered checkpoint)) same ∙ sym (ap (found_or_refusal (found_keep zero one).seq) is)))

-- and what was not
fault_finds : (told : Bool) (before now : DiskState) (faults_before faults_now : ℕ) (zero one : List ℕ) (fault : SlotFault)
    → AreTold told (before.reads 0) zero → AreTold told (before.reads 1) one → TellsRefusal (recovered zero one) fault
    → HasCause faults_before faults_now (disk_failed {T = Found} (Err fault))
    → FindsOrNoMemory (kept told before now faults_before faults_now) (Err (slots_refusal fault))
fault_finds told before now faults_before faults_now zero one DiskFault first second is cause =
    inr (record { slots = None; read = record { told = λ _. tt; failed = λ _. cause.rose refl }; gives = refl })
fault_finds told before now faults_before faults_now zero one (TooLarge slot len) first second is cause =
    inr (finds_read told before now faults_before faults_now zero one (Err (slots_refusal (TooLarge slot len))) first second
    (sym (ap (found_or_refusal (found_keep zero one).seq) is)))
fault_finds told before now faults_before faults_now zero one (Damaged slot place) first second is cause =
    inr (finds_read told before now faults_before faults_now zero one (Err (slots_refusal (Damaged slot place))) first second
    (sym (ap (found_or_refusal (found_keep zero one).seq) is)))
fault_finds told before now faults_before faults_now zero one NoMemory first second is cause = inl refl

pub finds_fault : (told : Bool) (before now : DiskState) (faults_before faults_now : ℕ) (zero one : List ℕ) (fault : SlotFault) (refusal : Refusal)
    → refusal ≡ slots_refusal fault → AreTold told (before.reads 0) zero → AreTold told (before.reads 1) one → TellsRefusal (recovered zero one) fault
    → HasCause faults_before faults_now (disk_failed {T = Found} (Err fault))
    → FindsOrNoMemory (kept told before now faults_before faults_now) (Err refusal)
finds_fault told before now faults_before faults_now zero one fault refusal same first second is cause =
    subst (λ (r : Refusal). FindsOrNoMemory (kept told before now faults_before faults_now) (Err r)) (sym same)
    (fault_finds told before now faults_before faults_now zero one fault first second is cause)

-- a disk that was only read
unwritten : (before now : DiskState) → IsUntouched before now → IsUnwritten before now
unwritten before now is = record { later = is.later; reads = is.reads; outcomes = is.outcomes; between = is.between }

fault_spares : (told : Bool) (before now : DiskState) (faults_before faults_now : ℕ) (fault : SlotFault) → (told ≡ true → IsUntouched before now)
    → HasCause faults_before faults_now (disk_failed {T = Found} (Err fault)) → SparesDisk (slots_refusal fault) (kept told before now faults_before faults_now)
fault_spares told before now faults_before faults_now DiskFault is cause =
    record { unwritten = λ tells. unwritten before now (is tells); calm = λ apart. absurd (apart refl) }
fault_spares told before now faults_before faults_now (TooLarge slot len) is cause =
    record { unwritten = λ tells. unwritten before now (is tells); calm = λ _. cause.same refl }
fault_spares told before now faults_before faults_now (Damaged slot place) is cause =
    record { unwritten = λ tells. unwritten before now (is tells); calm = λ _. cause.same refl }
fault_spares told before now faults_before faults_now NoMemory is cause =
    record { unwritten = λ tells. unwritten before now (is tells); calm = λ _. cause.same refl }

pub spares_fault : (told : Bool) (before now : DiskState) (faults_before faults_now : ℕ) (fault : SlotFault) (refusal : Refusal) → refusal ≡ slots_refusal fault
    → (told ≡ true → IsUntouched before now) → HasCause faults_before faults_now (disk_failed {T = Found} (Err fault))
    → SparesDisk refusal (kept told before now faults_before faults_now)
spares_fault told before now faults_before faults_now fault refusal same is cause =
    subst (λ (r : Refusal). SparesDisk r (kept told before now faults_before faults_now)) (sym same)
    (fault_spares told before now faults_before faults_now fault is cause)

-- before the first entry
none-yet : (start : Dictionary) → front_checkpoint start [] (shape_after start []).installed ≡ record { life = start.life; rows = start.pairs }
unfolding front_checkpoint
none-yet start = refl

in-step : (keep : Keep) (disk : DiskState) (start : Dictionary) → Fits keep disk
    → acknowledged_state keep disk ≡ record { life = start.life; rows = start.pairs } → left_state keep disk ≡ None → IsInStep keep disk start []
in-step keep disk start fits state left = record {
  fits = fits;
  acknowledged = state ∙ sym (none-yet start);
  left = subst (λ (o : Option Checkpoint). IfSome o (λ checkpoint.
      IsSomeAnd (shape_after start []).waiting (λ number. checkpoint ≡ front_checkpoint start [] number))) (sym left) tt;
}

-- a checkpoint of this life and these rows
abbrev checkpoint_of : (life : ℕ) → List Row → Checkpoint
checkpoint_of life rows = record { life = life; rows = rows }

-- the disk is ready for a session
pub ready_found : (told : Bool) (before now : DiskState) (faults_before faults_now : ℕ) (found : Found)
    → HasCause faults_before faults_now false → (told ≡ true → IsUntouched before now) → (told ≡ true → IsDisk now)
    → (told ≡ true → IsSettled before 0 → IsSettled before 1 → Fits found.keep now)
    → (told ≡ true → IsSettled before 0 → IsSettled before 1 → acknowledged_state found.keep now ≡ record { life = found.life; rows = found.map })
    → (told ≡ true → IsSettled before 0 → IsSettled before 1 → left_state found.keep now ≡ None)
    → IsReady (kept told before now faults_before faults_now) found
ready_found told before now faults_before faults_now found cause is disk fits state left = record {
  calm = cause.same refl;
  unwritten = λ tells. unwritten before now (is tells);
  is_disk = disk;
  in_step = λ start pairs life tells first second.
      in-step found.keep now start (fits tells first second)
      (state tells first second ∙ ap₂ checkpoint_of (sym life) (sym pairs)) (left tells first second);
}
