-- The three steps, device call by device call.
use Rattle.std.specs.Prelude.{◌≡◌, ◌≢◌, ◌⊎◌, ℕ, ◌+◌, ◌<◌, ◌≤◌, Bool, true, false, ◌==◌, List, [], ◌∷◌, ◌++◌, length, take, drop, slice_index, cond, Some, None, IsSomeAnd, Result, Ok, Err, is_err, refl}
use Rattle.std.proofs.Common.{arith, inl, inr, sym, ap, ap₂, ◌∙◌, subst, ⊎_elim}
use Rattle.std.proofs.lemmas.List.{ext_get_or, get_or-drop, get_or-take, length-drop, length-take, take-append-drop}
use Rattle.chew_spec_disk.specs.Disk.{DiskState, IsDisk, Passes, Stays}
use Rattle.chew_spec_disk.specs.Moments.{AlwaysLeft, AlwaysMightLeave}
use Rattle.chew_spec_disk.specs.Sync.{SyncAnswers, Syncs}
use Rattle.chew_spec_disk.specs.Write.{Holds, WriteAnswers, Writes, Wrote}
use Rattle.chew_spec_disk.proofs.Calls.{sync-done, sync-failed, write-done, write-failed}
use Rattle.chew_spec_disk.proofs.Moments.{always-here, always-more, always-weaker, might-here, might-later, might-more}
use Rattle.chew_spec_slots.specs.Fits.{Fits, IsFilled, RecoversTo, RecoversToOld, RecoversToOldOrLeft}
use Rattle.chew_spec_slots.specs.Keep.{Keep, acknowledged_state, advanced, is_shut, left_state, opened, other, with_seq, with_shut}
use Rattle.chew_spec_slots.specs.Reading.{Open, slot_reading}
use Rattle.chew_spec_slots.specs.Recovery.{Recovered}
use Rattle.chew_spec_slots.specs.Slot.{IsSaved, Saved, body, length_limit, open_gate, slot}
use Rattle.chew_spec_slots.specs.Steps.{FillsBody, LiftsGate, ShutsGate}
use Rattle.chew_spec_slots.proofs.Advance.{advanced-left, advanced-state, fits-advanced, fits-shut, fits-unsure, with_shut-own}
use Rattle.chew_spec_slots.proofs.Chances.{chance-weaker, fits-chance}
use Rattle.chew_spec_slots.proofs.Fitting.{fits-recovers, with_seq-next}
use Rattle.chew_spec_slots.proofs.Printed.{body-fits, printed}
use Rattle.chew_spec_slots.proofs.States.{old-or-left, only-old, same-checkpoint, same-left, shut-left}
use Rattle.chew_spec_slots.proofs.Steps.{fits-body, fits-gate, fits-stays, fits-synced, other-apart, torn-gate}

-- some calls after a disk, with the same known of its slots
pub record Stage (keep : Keep) (disk now : DiskState) : Type 0 where
  pub fits : Fits keep now
  pub state : acknowledged_state keep now ≡ acknowledged_state keep disk
  pub left : left_state keep now ≡ left_state keep disk
  pub moments : AlwaysLeft disk.moment now (RecoversToOldOrLeft keep disk)
  pub chances : AlwaysMightLeave disk.moment now.moment now (RecoversToOld keep disk)

-- before the first
pub stage-start : (keep : Keep) (disk : DiskState) → Fits keep disk → Stage keep disk disk
stage-start keep disk fits = record {
  fits = fits;
  state = refl;
  left = refl;
  moments = always-here disk (RecoversToOldOrLeft keep disk) fits.is_disk (fits-recovers keep disk fits);
  chances = might-here disk (RecoversToOld keep disk) fits.is_disk (fits-chance keep disk fits);
}

-- after one more
stage-next : (keep : Keep) (disk now after : DiskState) → Stage keep disk now → Fits keep after → Passes now after → after.reads (other keep.target) ≡ now.reads (other keep.target) → left_state keep after ≡ left_state keep now → Stage keep disk after
stage-next keep disk now after stage fits passes same left =
    let state = same-checkpoint keep.acknowledged keep.target keep.seq now after stage.fits.apart same ∙ stage.state in
    let remains = left ∙ stage.left in
    record {
      fits = fits;
      state = state;
      left = remains;
      moments = always-more disk.moment now after (RecoversToOldOrLeft keep disk) stage.moments passes fits.is_disk
          (λ first second l l′. old-or-left keep keep after disk first second state remains (fits-recovers keep after fits first second l l′));
      chances = might-more disk.moment now after (RecoversToOld keep disk) stage.chances passes fits.is_disk
          (chance-weaker after (RecoversToOld keep after) (RecoversToOld keep disk) (fits-chance keep after fits) (λ first second old. old ∙ ap Recovered state));
    }

pub stage-stays : (keep : Keep) (disk now after : DiskState) → Stage keep disk now → Stays now after → IsDisk after → Stage keep disk after
stage-stays keep disk now after stage stays is =
    stage-next keep disk now after stage (fits-stays keep now after stage.fits stays is) stays.passes (stays.reads (other keep.target))
    (same-left keep now after (ap (drop 1) (stays.reads keep.target)))

pub stage-gate : (keep : Keep) (disk now after : DiskState) → Stage keep disk now → is_shut keep keep.target ≡ false → Writes keep.target 0 1 now after → IsDisk after → Stage keep disk after
stage-gate keep disk now after stage unsure writes is =
    stage-next keep disk now after stage (fits-gate keep now after stage.fits unsure writes is) writes.passes
    (writes.other_read (other keep.target) (other-apart keep.target stage.fits.target))
    (same-left keep now after (torn-gate (now.reads keep.target) (after.reads keep.target) writes.read))

pub stage-body : (keep : Keep) (n : ℕ) (disk now after : DiskState) → Stage keep disk now → is_shut keep keep.target ≡ true → 1 + n ≤ length_limit → Writes keep.target 1 n now after → IsDisk after → Stage keep disk after
stage-body keep n disk now after stage shut room writes is =
    stage-next keep disk now after stage (fits-body keep n now after stage.fits shut room writes is) writes.passes
    (writes.other_read (other keep.target) (other-apart keep.target stage.fits.target))
    (shut-left keep after shut ∙ sym (shut-left keep now shut))

pub stage-synced : (keep : Keep) (disk now after : DiskState) → Stage keep disk now → is_shut keep keep.target ≡ true → Syncs keep.target now after → IsDisk after → Stage keep disk after
stage-synced keep disk now after stage shut syncs is =
    stage-next keep disk now after stage (fits-synced keep now after stage.fits shut syncs is) syncs.passes (syncs.reads (other keep.target))
    (shut-left keep after shut ∙ sym (shut-left keep now shut))

-- a gate that was shut already, one that may be shut, and one that was
pub shuts-already : {T E : Type 0} (keep : Keep) (disk : DiskState) (x : T) → Fits keep disk → is_shut keep keep.target ≡ true → ShutsGate {E = E} keep disk keep disk (Ok x)
shuts-already keep disk x fits shut =
    let stage = stage-start keep disk fits in
    record { fits = fits; state = refl; left = shut-left keep disk shut; moments = stage.moments; chances = stage.chances }

pub shuts-failed : {T E : Type 0} (keep : Keep) (disk now : DiskState) (e : E) → Stage keep disk now → ShutsGate {T = T} keep disk keep now (Err e)
shuts-failed keep disk now e stage = record { fits = stage.fits; state = stage.state; left = stage.left; moments = stage.moments; chances = stage.chances }

pub shuts-done : {T E : Type 0} (keep : Keep) (disk now after : DiskState) (x : T) → Stage keep disk now → is_shut keep keep.target ≡ false
    → slice_index (now.reads keep.target) 0 ≢ open_gate → 1 ≤ length (now.reads keep.target) → Syncs keep.target now after → IsDisk after
    → ShutsGate {E = E} keep disk (with_shut keep keep.target true) after (Ok x)
shuts-done keep disk now after x stage unsure gate some syncs is =
    let keep_then = with_shut keep keep.target true in
    let fits = fits-shut keep now after stage.fits unsure gate some syncs is in
    let shut = with_shut-own keep true keep.target stage.fits.target in
    let none = shut-left keep_then after shut in
    let state : acknowledged_state keep_then after ≡ acknowledged_state keep disk =
    same-checkpoint keep.acknowledged keep.target keep.seq now after stage.fits.apart (syncs.reads (other keep.target)) ∙ stage.state in
    record {
      fits = fits;
      state = state;
      left = none;
      moments = always-more disk.moment now after (RecoversToOldOrLeft keep disk) stage.moments syncs.passes is
          (λ first second l l′. inl (only-old keep_then after (acknowledged_state keep disk) fits none state first second l l′));
      chances = might-more disk.moment now after (RecoversToOld keep disk) stage.chances syncs.passes is
          (chance-weaker after (RecoversToOld keep_then after) (RecoversToOld keep disk) (fits-chance keep_then after fits) (λ first second old. old ∙ ap Recovered state));
    }

-- where nothing was left, only the old state is recovered
only-old-moments : (keep : Keep) (disk now : DiskState) → left_state keep disk ≡ None → AlwaysLeft disk.moment now (RecoversToOldOrLeft keep disk) → AlwaysLeft disk.moment now (RecoversToOld keep disk)
only-old-moments keep disk now none moments =
    always-weaker disk.moment now (RecoversToOldOrLeft keep disk) (RecoversToOld keep disk) moments
    (λ first second recovers. ⊎_elim (λ old. old) (λ next. absurd (subst (λ o. IsSomeAnd o (λ c. RecoversTo c first second)) none next)) recovers)

-- a body that was written and synced
behind-written : (bytes old new : List ℕ) → Holds 1 bytes old new → take (length bytes) (drop 1 new) ≡ bytes
behind-written bytes old new holds =
    ext_get_or 0 (take (length bytes) (drop 1 new)) bytes
    (omega (arith, length-take (length bytes) (drop 1 new), length-drop 1 new, holds.long))
    (λ k low.
    let within : k < length bytes = omega (arith, length-take (length bytes) (drop 1 new), low) in
    get_or-take (length bytes) (drop 1 new) k 0 within ∙ get_or-drop 1 new k 0 ∙ holds.there k within)

is-filled : (keep : Keep) (before now after : DiskState) (saved : Saved) → is_shut keep keep.target ≡ true → IsSaved saved → saved.seq ≡ keep.seq + 1
    → Holds 1 (body saved) (before.reads keep.target) (now.reads keep.target) → Syncs keep.target now after → IsFilled keep after saved
is-filled keep before now after saved shut is next holds syncs =
    let b = body saved in
    let reads = after.reads keep.target in
    let front : take (length b) (drop 1 reads) ≡ b = ap (λ list. take (length b) (drop 1 list)) (syncs.reads keep.target) ∙ behind-written b (before.reads keep.target) (now.reads keep.target) holds in
    let whole : drop 1 reads ≡ b ++ drop (length b) (drop 1 reads) = sym (take-append-drop (length b) (drop 1 reads)) ∙ ap (λ list. list ++ drop (length b) (drop 1 reads)) front in
    record {
      shut = shut;
      settled = syncs.settled;
      opens = ap (λ (behind : List ℕ). slot_reading (open_gate ∷ behind)) whole ∙ printed saved (drop (length b) (drop 1 reads)) is;
      next = next;
    }

pub fills-failed : {T E : Type 0} (keep : Keep) (disk now : DiskState) (saved : Saved) (e : E) → is_shut keep keep.target ≡ true → Stage keep disk now → FillsBody {T = T} keep disk now saved (Err e)
fills-failed keep disk now saved e shut stage = record {
  fits = stage.fits;
  state = stage.state;
  left = shut-left keep now shut;
  filled = tt;
  moments = only-old-moments keep disk now (shut-left keep disk shut) stage.moments;
  chances = stage.chances;
}

pub fills-done : {T E : Type 0} (keep : Keep) (disk before now after : DiskState) (saved : Saved) (x : T) → is_shut keep keep.target ≡ true → IsSaved saved → saved.seq ≡ keep.seq + 1
    → Stage keep disk now → Holds 1 (body saved) (before.reads keep.target) (now.reads keep.target) → Syncs keep.target now after → IsDisk after → FillsBody {E = E} keep disk after saved (Ok x)
fills-done keep disk before now after saved x shut is next stage holds syncs is_after =
    let last = stage-synced keep disk now after stage shut syncs is_after in
    record {
      fits = last.fits;
      state = last.state;
      left = shut-left keep after shut;
      filled = is-filled keep before now after saved shut is next holds syncs;
      moments = only-old-moments keep disk after (shut-left keep disk shut) last.moments;
      chances = last.chances;
    }

-- what is known once the gate is to be lifted
pub lift-start : (keep : Keep) (disk : DiskState) (saved : Saved) → Fits keep disk → IsFilled keep disk saved → Stage (with_shut keep keep.target false) disk disk
lift-start keep disk saved fits filled = stage-start (with_shut keep keep.target false) disk (fits-unsure keep disk saved fits filled)

-- the state that was written is then the one that is left
filled-left : (keep : Keep) (disk : DiskState) (saved : Saved) → Fits keep disk → IsFilled keep disk saved → left_state (with_shut keep keep.target false) disk ≡ Some saved.checkpoint
filled-left keep disk saved fits filled =
    ap (λ b. cond b None (with_seq (keep.seq + 1) (slot_reading (opened (disk.reads keep.target))))) (with_shut-own keep false keep.target fits.target)
    ∙ with_seq-next keep.seq saved (slot_reading (opened (disk.reads keep.target))) filled.opens filled.next

lift-moments : (keep : Keep) (disk now : DiskState) (saved : Saved) → Fits keep disk → IsFilled keep disk saved → Stage (with_shut keep keep.target false) disk now
    → AlwaysLeft disk.moment now (λ first second. RecoversToOld keep disk first second ⊎ RecoversTo saved.checkpoint first second)
lift-moments keep disk now saved fits filled stage =
    always-weaker disk.moment now (RecoversToOldOrLeft (with_shut keep keep.target false) disk) (λ first second. RecoversToOld keep disk first second ⊎ RecoversTo saved.checkpoint first second) stage.moments
    (λ first second recovers.
    ⊎_elim
    (λ old. inl old)
    (λ next. inr (subst (λ o. IsSomeAnd o (λ c. RecoversTo c first second)) (filled-left keep disk saved fits filled) next))
    recovers)

pub lifts-failed : {T E : Type 0} (keep : Keep) (disk now : DiskState) (saved : Saved) (e : E) → Fits keep disk → IsFilled keep disk saved → Stage (with_shut keep keep.target false) disk now
    → LiftsGate {T = T} keep disk (with_shut keep keep.target false) now saved (Err e)
lifts-failed keep disk now saved e fits filled stage = record {
  fits = stage.fits;
  moments = lift-moments keep disk now saved fits filled stage;
  done = record { state = stage.state; left = stage.left ∙ filled-left keep disk saved fits filled; chances = stage.chances };
}

pub advanced-same : (keep : Keep) → advanced (with_shut keep keep.target false) ≡ advanced keep
advanced-same keep = ap₂ (λ zero one. record { acknowledged = Some keep.target; seq = keep.seq + 1; target = other keep.target; zero_shut = zero; one_shut = one })
    (first (keep.target == 0) keep.zero_shut) (second (keep.target == 0) keep.one_shut)
  where
    first : (b shut : Bool) → cond b false (cond b false shut) ≡ cond b false shut
    first true shut = refl
    first false shut = refl

    second : (b shut : Bool) → cond b (cond b shut false) false ≡ cond b shut false
    second true shut = refl
    second false shut = refl

pub lifts-done : {T E : Type 0} (keep : Keep) (disk now after : DiskState) (saved : Saved) (x : T) → Fits keep disk → IsFilled keep disk saved
    → Wrote keep.target 0 (open_gate ∷ []) disk now → IsDisk now → Syncs keep.target now after → IsDisk after → LiftsGate {E = E} keep disk (advanced keep) after saved (Ok x)
lifts-done keep disk now after saved x fits filled wrote is_now syncs is_after =
    let unsure = with_shut keep keep.target false in
    let not_shut = with_shut-own keep false keep.target fits.target in
    let stage = stage-gate unsure disk disk now (lift-start keep disk saved fits filled) not_shut wrote.writes is_now in
    let gate : slice_index (now.reads keep.target) 0 ≡ open_gate = wrote.holds.there 0 (omega arith) in
    let some : 1 ≤ length (now.reads keep.target) = omega (arith, wrote.holds.long) in
    let opens : slot_reading (opened (now.reads keep.target)) ≡ Open saved =
    ap (λ (behind : List ℕ). slot_reading (open_gate ∷ behind)) (torn-gate (disk.reads keep.target) (now.reads keep.target) wrote.writes.read) ∙ filled.opens in
    let then = subst (λ (k : Keep). Fits k after) (advanced-same keep) (fits-advanced unsure now after saved stage.fits not_shut gate some opens filled.next syncs is_after) in
    let state = ap (λ (k : Keep). acknowledged_state k after) (sym (advanced-same keep)) ∙ advanced-state unsure now after saved gate some opens syncs in
    let none = ap (λ (k : Keep). left_state k after) (sym (advanced-same keep)) ∙ advanced-left unsure now after stage.fits syncs in
    let recovers = only-old (advanced keep) after saved.checkpoint then none state in
    record {
      fits = then;
      moments = always-more disk.moment now after (λ first second. RecoversToOld keep disk first second ⊎ RecoversTo saved.checkpoint first second)
          (lift-moments keep disk now saved fits filled stage) syncs.passes is_after (λ first second l l′. inr (recovers first second l l′));
      done = record {
        state = state;
        left = none;
        now = recovers;
        chances = λ under.
            let rises = wrote.writes.passes.rises in
            let later = syncs.passes.rises in
            might-later disk.moment (disk.moment + 1) now after (RecoversToOld keep disk)
            (subst (λ (m : ℕ). AlwaysMightLeave disk.moment m now (RecoversToOld keep disk)) (let e : now.moment ≡ disk.moment + 1 = omega arith in e) stage.chances)
            (omega arith) syncs.passes;
      };
    }

-- by what a device call answers
pub stage-gate-failed : {T E : Type 0} (keep : Keep) (gate : ℕ) (disk now after : DiskState) (answer : Result T E) → Stage keep disk now → is_shut keep keep.target ≡ false
    → WriteAnswers keep.target 0 (gate ∷ []) now after answer → is_err answer ≡ true → IsDisk after → Stage keep disk after
stage-gate-failed keep gate disk now after answer stage unsure says is disk_is =
    ⊎_elim
    (λ writes. stage-gate keep disk now after stage unsure writes disk_is)
    (λ stays. stage-stays keep disk now after stage stays disk_is)
    (write-failed keep.target 0 (gate ∷ []) now after answer says is)

pub stage-body-failed : {T E : Type 0} (keep : Keep) (bytes : List ℕ) (disk now after : DiskState) (answer : Result T E) → Stage keep disk now → is_shut keep keep.target ≡ true → 1 + length bytes ≤ length_limit
    → WriteAnswers keep.target 1 bytes now after answer → is_err answer ≡ true → IsDisk after → Stage keep disk after
stage-body-failed keep bytes disk now after answer stage shut room says is disk_is =
    ⊎_elim
    (λ writes. stage-body keep (length bytes) disk now after stage shut room writes disk_is)
    (λ stays. stage-stays keep disk now after stage stays disk_is)
    (write-failed keep.target 1 bytes now after answer says is)

pub stage-sync-failed : {T E : Type 0} (keep : Keep) (slot : ℕ) (disk now after : DiskState) (answer : Result T E) → Stage keep disk now → SyncAnswers slot now after answer → is_err answer ≡ true → IsDisk after → Stage keep disk after
stage-sync-failed keep slot disk now after answer stage says is disk_is = stage-stays keep disk now after stage (sync-failed slot now after answer says is) disk_is

-- shutting the gate, by what its two calls answer
pub shuts-by-calls : {T E F : Type 0} (keep : Keep) (disk now after : DiskState) (wrote : Result T E) (synced : Result T E) (x : T) → Fits keep disk → is_shut keep keep.target ≡ false → IsDisk now → IsDisk after
    → WriteAnswers keep.target 0 (0 ∷ []) disk now wrote → is_err wrote ≡ false → SyncAnswers keep.target now after synced → is_err synced ≡ false
    → ShutsGate {E = F} keep disk (with_shut keep keep.target true) after (Ok x)
shuts-by-calls keep disk now after wrote synced x fits unsure is_now is_after says worked says′ worked′ =
    let done = write-done keep.target 0 (0 ∷ []) disk now wrote says worked in
    let stage = stage-gate keep disk disk now (stage-start keep disk fits) unsure done.writes is_now in
    let gate : slice_index (now.reads keep.target) 0 ≡ 0 = done.holds.there 0 (omega arith) in
    shuts-done keep disk now after x stage unsure (λ opened_gate. absurd (omega (arith, gate, opened_gate))) (omega (arith, done.holds.long)) (sync-done keep.target now after synced says′ worked′) is_after

-- filling the body, by what its two calls answer
pub fills-by-calls : {T E F : Type 0} (keep : Keep) (bytes : List ℕ) (disk now after : DiskState) (wrote synced : Result T E) (saved : Saved) (x : T) → Fits keep disk → is_shut keep keep.target ≡ true
    → IsSaved saved → saved.seq ≡ keep.seq + 1 → bytes ≡ body saved → IsDisk now → IsDisk after
    → WriteAnswers keep.target 1 bytes disk now wrote → is_err wrote ≡ false → SyncAnswers keep.target now after synced → is_err synced ≡ false
    → FillsBody {E = F} keep disk after saved (Ok x)
fills-by-calls keep bytes disk now after wrote synced saved x fits shut is next same is_now is_after says worked says′ worked′ =
    let done = write-done keep.target 1 bytes disk now wrote says worked in
    let room : 1 + length bytes ≤ length_limit = omega (arith, ap length same, body-fits saved is) in
    let stage = stage-body keep (length bytes) disk disk now (stage-start keep disk fits) shut room done.writes is_now in
    fills-done keep disk disk now after saved x shut is next stage (subst (λ b. Holds 1 b (disk.reads keep.target) (now.reads keep.target)) same done.holds)
    (sync-done keep.target now after synced says′ worked′) is_after

pub room-for : (saved : Saved) (bytes : List ℕ) → IsSaved saved → bytes ≡ body saved → 1 + length bytes ≤ length_limit
room-for saved bytes is same = omega (arith, ap length same, body-fits saved is)

-- lifting the gate, by what its two calls answer
pub lifts-by-calls : {T E F : Type 0} (keep : Keep) (disk now after : DiskState) (wrote synced : Result T E) (saved : Saved) (x : T) → Fits keep disk → IsFilled keep disk saved → IsDisk now → IsDisk after
    → WriteAnswers keep.target 0 (open_gate ∷ []) disk now wrote → is_err wrote ≡ false → SyncAnswers keep.target now after synced → is_err synced ≡ false
    → LiftsGate {E = F} keep disk (advanced keep) after saved (Ok x)
lifts-by-calls keep disk now after wrote synced saved x fits filled is_now is_after says worked says′ worked′ =
    lifts-done keep disk now after saved x fits filled (write-done keep.target 0 (open_gate ∷ []) disk now wrote says worked) is_now
    (sync-done keep.target now after synced says′ worked′) is_after

-- of a keep that is the same
pub shuts-as : {T E : Type 0} (keep : Keep) (disk : DiskState) (known then : Keep) (disk_then : DiskState) (answer : Result T E) → then ≡ known → ShutsGate keep disk known disk_then answer → ShutsGate keep disk then disk_then answer
shuts-as keep disk known then disk_then answer same shuts = subst (λ k. ShutsGate keep disk k disk_then answer) (sym same) shuts

pub lifts-as : {T E : Type 0} (keep : Keep) (disk : DiskState) (known then : Keep) (disk_then : DiskState) (saved : Saved) (answer : Result T E) → then ≡ known → LiftsGate keep disk known disk_then saved answer
    → LiftsGate keep disk then disk_then saved answer
lifts-as keep disk known then disk_then saved answer same lifts = subst (λ k. LiftsGate keep disk k disk_then saved answer) (sym same) lifts
