-- The states that are kept over a device call.
use Rattle.std.specs.Prelude.{◌≡◌, ◌⊎◌, ℕ, ◌+◌, true, List, ◌∷◌, cond, drop, Option, Some, None, IsSomeAnd, refl}
use Rattle.std.proofs.Common.{inl, inr, sym, ap, ◌∙◌, subst, ⊎_elim}
use Rattle.chew_spec_disk.specs.Disk.{DiskState}
use Rattle.chew_spec_disk.specs.Moments.{NowLeaves}
use Rattle.chew_spec_slots.specs.Fits.{Fits, IsApart, RecoversTo, RecoversToOldOrLeft}
use Rattle.chew_spec_slots.specs.Keep.{Keep, acknowledged_state, checkpoint_in, is_shut, left_state, opened, other, slot_checkpoint, with_seq}
use Rattle.chew_spec_slots.specs.Reading.{slot_reading}
use Rattle.chew_spec_slots.specs.Recovery.{Recovered}
use Rattle.chew_spec_slots.specs.Slot.{Checkpoint, open_gate}
use Rattle.chew_spec_slots.proofs.Fitting.{fits-recovers}

-- where the slot that counts reads the same, its state is the same
pub same-checkpoint : (ack : Option ℕ) (target seq : ℕ) (before after : DiskState) → IsApart ack target seq → after.reads (other target) ≡ before.reads (other target)
    → slot_checkpoint after ack ≡ slot_checkpoint before ack
same-checkpoint None target seq before after apart same = refl
same-checkpoint (Some slot) target seq before after apart same =
    let there : after.reads slot ≡ before.reads slot = subst (λ (s : ℕ). after.reads s ≡ before.reads s) (sym apart) same in
    ap (λ list. checkpoint_in (slot_reading list)) there

-- where the target reads the same behind its gate, so is the state that is left
pub same-left : (keep : Keep) (before after : DiskState) → drop 1 (after.reads keep.target) ≡ drop 1 (before.reads keep.target) → left_state keep after ≡ left_state keep before
same-left keep before after same = ap (λ (behind : List ℕ). cond (is_shut keep keep.target) None (with_seq (keep.seq + 1) (slot_reading (open_gate ∷ behind)))) same

-- a gate that is surely shut leaves none
pub shut-left : (keep : Keep) (disk : DiskState) → is_shut keep keep.target ≡ true → left_state keep disk ≡ None
shut-left keep disk is = ap (λ b. cond b None (with_seq (keep.seq + 1) (slot_reading (opened (disk.reads keep.target))))) is

-- what two slots recover to, by the two states
pub old-or-left : (keep keep′ : Keep) (disk disk′ : DiskState) (first second : List ℕ) → acknowledged_state keep disk ≡ acknowledged_state keep′ disk′ → left_state keep disk ≡ left_state keep′ disk′
    → RecoversToOldOrLeft keep disk first second → RecoversToOldOrLeft keep′ disk′ first second
old-or-left keep keep′ disk disk′ first second state left recovers =
    ⊎_elim
    (λ old. inl (old ∙ ap Recovered state))
    (λ next. inr (subst (λ o. IsSomeAnd o (λ checkpoint. RecoversTo checkpoint first second)) left next))
    recovers

-- where no state is left only the old one is recovered
pub only-old : (keep : Keep) (disk : DiskState) (checkpoint : Checkpoint) → Fits keep disk → left_state keep disk ≡ None → acknowledged_state keep disk ≡ checkpoint → NowLeaves disk (RecoversTo checkpoint)
only-old keep disk checkpoint fits none is first second left left′ =
    ⊎_elim
    (λ old. old ∙ ap Recovered is)
    (λ next. absurd (subst (λ o. IsSomeAnd o (λ c. RecoversTo c first second)) none next))
    (fits-recovers keep disk fits first second left left′)
