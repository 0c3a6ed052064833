-- Writing by three steps, as its calls answer.
use Rattle.std.specs.Prelude.{◌≡◌, ◌⊎◌, ℕ, ◌+◌, Option, Some, None, IfSome, Result, Ok, Err, MatchResult, refl}
use Rattle.std.proofs.Common.{inl, sym, subst, ap, ◌∙◌}
use Rattle.chew_spec_outside.specs.Faults.{risen}
use Rattle.chew_spec_disk.specs.Disk.{DiskState, Later}
use Rattle.chew_spec_disk.proofs.Moments.{always-here, later-same, might-here}
use Rattle.chew_spec_slots.specs.Fits.{Fits, IsFilled, RecoversTo, RecoversToOld, RecoversToOldOrLeft}
use Rattle.chew_spec_slots.specs.Keep.{Keep, left_state}
use Rattle.chew_spec_slots.specs.Slot.{Checkpoint, Saved}
use Rattle.chew_spec_slots.proofs.Chances.{fits-chance}
use Rattle.chew_spec_slots.proofs.Fitting.{fits-recovers}
use Rattle.chew_spec_slots.specs.Steps.{FillsBody, LiftsGate, ShutsGate}
use Rattle.chew_spec_rounds.specs.WriteSteps.{WritesCheckpoint}
use Rattle.chew_checkpoint.specs.declared.fault.WriteFault.{WriteFault}
use Rattle.chew_checkpoint.specs.declared.fault.WriteFault.TheVariants.{SeqSpent}
use Rattle.chew_spec_rounds.proofs.Steps.{filling-fails, lifting-fails, steps-done}

-- the body was not filled
pub no-body : {T E F : Type 0} (before shut filled : DiskState) (keep keep_shut keep_filled : Keep) (saved : Saved) (done : T) (fault : E) (failed : F)
    → keep_filled ≡ keep_shut → Later before shut → Later shut filled
    → ShutsGate {E = E} keep before keep_shut shut (Ok done) → FillsBody {T = T} keep_shut shut filled saved (Err fault)
    → WritesCheckpoint {T = T} keep before keep_filled filled saved (Err failed)
no-body {T} before shut filled keep keep_shut keep_filled saved done fault failed same first second shuts fills =
    subst (λ (k : Keep). WritesCheckpoint {T = T} keep before k filled saved (Err failed)) (sym same)
    (filling-fails before shut filled keep keep_shut saved done fault failed first second shuts fills)

last-answer : {T E : Type 0} (Q : E → Type 0) (before shut filled lifted : DiskState) (keep keep_shut keep_lifted : Keep) (saved : Saved) (done : T) (answer : Result T E)
    → Later before shut → Later shut filled → Later filled lifted → MatchResult answer (λ _. lifted.moment ≡ risen (risen filled.moment)) Q
    → ((x : T) → ShutsGate {E = E} keep before keep_shut shut (Ok x)) → ((x : T) → FillsBody {E = E} keep_shut shut filled saved (Ok x))
    → LiftsGate keep_shut filled keep_lifted lifted saved answer → WritesCheckpoint keep before keep_lifted lifted saved answer
last-answer Q before shut filled lifted keep keep_shut keep_lifted saved done (Ok x) first second last calls shuts fills lifts =
    steps-done before shut filled lifted keep keep_shut keep_lifted saved x first second last calls (shuts x) (fills x) lifts
last-answer Q before shut filled lifted keep keep_shut keep_lifted saved done (Err e) first second last calls shuts fills lifts =
    lifting-fails before shut filled lifted keep keep_shut keep_lifted saved done e e first second last (shuts done) (fills done) lifts

-- the last step's answer is the writing's
pub last-step : {T E : Type 0} (Q : E → Type 0) (before shut filled lifted : DiskState) (keep keep_shut keep_filled keep_lifted : Keep) (saved : Saved) (done : T) (answer : Result T E)
    → keep_filled ≡ keep_shut → Later before shut → Later shut filled → Later filled lifted → MatchResult answer (λ _. lifted.moment ≡ risen (risen filled.moment)) Q
    → ((x : T) → ShutsGate {E = E} keep before keep_shut shut (Ok x)) → ((x : T) → FillsBody {E = E} keep_shut shut filled saved (Ok x))
    → (Fits keep_filled filled → IsFilled keep_filled filled saved → LiftsGate keep_filled filled keep_lifted lifted saved answer)
    → WritesCheckpoint keep before keep_lifted lifted saved answer
last-step Q before shut filled now keep keep_shut keep_filled keep_lifted saved done answer same first second last calls shuts fills lifts =
    last-answer Q before shut filled now keep keep_shut keep_lifted saved done answer first second last calls shuts fills
    (subst (λ (k : Keep). LiftsGate k filled keep_lifted now saved answer) same
    (lifts (subst (λ (k : Keep). Fits k filled) (sym same) (fills done).fits) (subst (λ (k : Keep). IsFilled k filled saved) (sym same) (fills done).filled)))

-- what was left is left
still-left : (left : Option Checkpoint) (new : Checkpoint) → IfSome left (λ checkpoint. (left ≡ Some checkpoint) ⊎ (checkpoint ≡ new))
still-left None new = tt
still-left (Some checkpoint) new = inl refl

-- nothing was written
pub nothing-written : {T E : Type 0} (keep : Keep) (disk : DiskState) (saved : Saved) (failed : E) → Fits keep disk → WritesCheckpoint {T = T} keep disk keep disk saved (Err failed)
nothing-written keep disk saved failed fits = record {
  fits = fits;
  later = later-same disk;
  moments = always-here disk (λ zero one. RecoversToOldOrLeft keep disk zero one ⊎ RecoversTo saved.checkpoint zero one) fits.is_disk
      (λ zero one left other. inl (fits-recovers keep disk fits zero one left other));
  done = record {
    state = refl;
    left = still-left (left_state keep disk) saved.checkpoint;
    chances = might-here disk (RecoversToOld keep disk) fits.is_disk (fits-chance keep disk fits);
  };
}

-- the same of another answer
pub also-failed : {T V E F : Type 0} (keep keep_then : Keep) (disk disk_then : DiskState) (saved : Saved) (failed : E) (also : F)
    → WritesCheckpoint {T = T} keep disk keep_then disk_then saved (Err failed) → WritesCheckpoint {T = V} keep disk keep_then disk_then saved (Err also)
also-failed keep keep_then disk disk_then saved failed also writes = record { fits = writes.fits; later = writes.later; moments = writes.moments; done = writes.done }

pub also-done : {T V E F : Type 0} (keep keep_then : Keep) (disk disk_then : DiskState) (saved : Saved) (done : T) (also : V)
    → WritesCheckpoint {E = E} keep disk keep_then disk_then saved (Ok done) → WritesCheckpoint {E = F} keep disk keep_then disk_then saved (Ok also)
also-done keep keep_then disk disk_then saved done also writes = record { fits = writes.fits; later = writes.later; moments = writes.moments; done = writes.done }

-- what was written with the next number, by what a checkpointer keeps
pub failed-write : {T V E F : Type 0} (inside keep keep_then : Keep) (disk disk_then : DiskState) (seq : ℕ) (checkpoint : Checkpoint) (failed : E) (also : F)
    → inside ≡ keep → seq ≡ inside.seq + 1 → WritesCheckpoint {T = T} inside disk keep_then disk_then (record { seq = seq; checkpoint = checkpoint }) (Err failed)
    → WritesCheckpoint {T = V} keep disk keep_then disk_then (record { seq = keep.seq + 1; checkpoint = checkpoint }) (Err also)
failed-write {T} inside keep keep_then disk disk_then seq checkpoint failed also same next writes =
    also-failed keep keep_then disk disk_then (record { seq = keep.seq + 1; checkpoint = checkpoint }) failed also
    (subst (λ (k : Keep). WritesCheckpoint {T = T} k disk keep_then disk_then (record { seq = k.seq + 1; checkpoint = checkpoint }) (Err failed)) same
    (subst (λ (s : ℕ). WritesCheckpoint {T = T} inside disk keep_then disk_then (record { seq = s; checkpoint = checkpoint }) (Err failed)) next writes))

pub done-write : {T V E F : Type 0} (inside keep keep_then : Keep) (disk disk_then : DiskState) (seq : ℕ) (checkpoint : Checkpoint) (done : T) (also : V)
    → inside ≡ keep → seq ≡ inside.seq + 1 → WritesCheckpoint {E = E} inside disk keep_then disk_then (record { seq = seq; checkpoint = checkpoint }) (Ok done)
    → WritesCheckpoint {E = F} keep disk keep_then disk_then (record { seq = keep.seq + 1; checkpoint = checkpoint }) (Ok also)
done-write {T} {V} {E} inside keep keep_then disk disk_then seq checkpoint done also same next writes =
    also-done keep keep_then disk disk_then (record { seq = keep.seq + 1; checkpoint = checkpoint }) done also
    (subst (λ (k : Keep). WritesCheckpoint {E = E} k disk keep_then disk_then (record { seq = k.seq + 1; checkpoint = checkpoint }) (Ok done)) same
    (subst (λ (s : ℕ). WritesCheckpoint {E = E} inside disk keep_then disk_then (record { seq = s; checkpoint = checkpoint }) (Ok done)) next writes))

-- a fault that is handed on is the same one
pub same-fault : {T V : Type 0} (answer : Result V WriteFault) (fault handed : WriteFault) (seq : ℕ) → answer ≡ Err handed → handed ≡ fault → answer ≡ Err (SeqSpent seq)
    → ◌≡◌ {A = Result T WriteFault} (Err fault) (Err (SeqSpent seq))
same-fault answer fault handed seq is same spent = ap Err (sym same ∙ err-same (sym is ∙ spent))
  where
    err-same : {W : Type 0} {one other : WriteFault} → ◌≡◌ {A = Result W WriteFault} (Err one) (Err other) → one ≡ other
    err-same e = cc
