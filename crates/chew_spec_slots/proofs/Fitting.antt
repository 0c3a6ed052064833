-- What two slots recover to where what is known of them fits the disk.
use Rattle.std.specs.Prelude.{◌≡◌, ◌⊎◌, ℕ, zero, suc, ◌+◌, ◌<◌, ◌≤◌, Bool, true, false, List, length, cond, Option, Some, None, IsSomeAnd, refl}
use Rattle.std.proofs.Common.{arith, eqb, inl, inr, sym, ap, ◌∙◌, subst, ⊎_elim}
use Rattle.std.proofs.lemmas.Bool.Decides.{nat_tests}
use Rattle.chew_spec_disk.specs.Disk.{DiskState}
use Rattle.chew_spec_disk.specs.Moments.{NowLeaves}
use Rattle.chew_spec_disk.specs.Sync.{IsSettled}
use Rattle.chew_spec_slots.specs.Fits.{Fits, IsAnyGate, IsApart, IsBehindGate, MayOpen, RecoversTo, RecoversToOldOrLeft, Stands}
use Rattle.chew_spec_slots.specs.Keep.{Keep, checkpoint_in, is_shut, left_state, opened, other, slot_checkpoint, with_seq}
use Rattle.chew_spec_slots.specs.Reading.{SlotReading, Shut, Open, Faulty, slot_reading}
use Rattle.chew_spec_slots.specs.Recovery.{Recovered, recovered}
use Rattle.chew_spec_slots.specs.Slot.{Checkpoint, Saved, length_limit}
use Rattle.chew_spec_slots.proofs.Readings.{Misses, by_readings, next-one, next-zero, old-one, old-zero, recovered-fits, state_of}
use Rattle.chew_spec_slots.proofs.Targets.{any-gate, shut-gate}

-- a target that is open with the next seq
pub record IsNext (seq : ℕ) (list : List ℕ) (saved : Saved) : Type 0 where
  pub reading : slot_reading list ≡ Open saved
  pub next : saved.seq ≡ seq + 1

-- two slots recover to the state that counts, or to that of a target with the next seq
record Recovers (checkpoint : Checkpoint) (seq : ℕ) (list first second : List ℕ) : Type 0 where
  to : (recovered first second ≡ Recovered checkpoint) ⊎ ((saved : Saved) × IsNext seq list saved × (recovered first second ≡ Recovered saved.checkpoint))

pair-zero : (ack : Option ℕ) (seq : ℕ) (kept list : List ℕ) → length kept ≤ length_limit → length list ≤ length_limit → Stands ack seq (slot_reading kept) → IsApart ack 0 seq
    → Misses 0 seq (slot_reading list) ⊎ ((saved : Saved) × IsNext seq list saved)
    → Recovers (state_of ack (slot_reading kept)) seq list list kept
pair-zero ack seq kept list fits fits′ stands apart which = record {
  to = ⊎_elim
      (λ misses. inl (recovered-fits list kept fits′ fits ∙ old-zero ack seq (slot_reading kept) (slot_reading list) stands apart misses))
      (λ next. inr (
        next.0,
        next.1,
        recovered-fits list kept fits′ fits
            ∙ ap (λ r. by_readings r (slot_reading kept)) next.1.reading
            ∙ next-zero ack seq (slot_reading kept) next.0 stands next.1.next,
      ))
      which;
}

pair-one : (ack : Option ℕ) (seq : ℕ) (kept list : List ℕ) → length kept ≤ length_limit → length list ≤ length_limit → Stands ack seq (slot_reading kept) → IsApart ack 1 seq
    → Misses 1 seq (slot_reading list) ⊎ ((saved : Saved) × IsNext seq list saved)
    → Recovers (state_of ack (slot_reading kept)) seq list kept list
pair-one ack seq kept list fits fits′ stands apart which = record {
  to = ⊎_elim
      (λ misses. inl (recovered-fits kept list fits fits′ ∙ old-one ack seq (slot_reading kept) (slot_reading list) stands apart misses))
      (λ next. inr (
        next.0,
        next.1,
        recovered-fits kept list fits fits′
            ∙ ap (λ r. by_readings (slot_reading kept) r) next.1.reading
            ∙ next-one ack seq (slot_reading kept) next.0 stands next.1.next,
      ))
      which;
}

-- what a crash may leave of a target that fits
pub record LeavesTarget (target seq : ℕ) (list : List ℕ) : Type 0 where
  pub fits : length list ≤ length_limit
  pub which : Misses target seq (slot_reading list) ⊎ ((saved : Saved) × IsNext seq list saved)

-- a pair that is left recovers, by its list at the target
record PairRecovers (target seq : ℕ) (checkpoint : Checkpoint) (disk : DiskState) (first second : List ℕ) : Type 0 where
  list : List ℕ
  left : disk.may_leave target list
  recovers : Recovers checkpoint seq list first second

recovers-at : (target : ℕ) → target < 2 → (ack : Option ℕ) (seq : ℕ) (disk : DiskState) → IsSettled disk (other target)
    → length (disk.reads (other target)) ≤ length_limit → Stands ack seq (slot_reading (disk.reads (other target))) → IsApart ack target seq
    → ((list : List ℕ) → disk.may_leave target list → LeavesTarget target seq list)
    → (first second : List ℕ) → disk.may_leave 0 first → disk.may_leave 1 second
    → PairRecovers target seq (state_of ack (slot_reading (disk.reads (other target)))) disk first second
recovers-at zero low ack seq disk settled fits stands apart leaves first second left left′ = record {
  list = first;
  left = left;
  recovers = subst (λ s. Recovers (state_of ack (slot_reading (disk.reads 1))) seq first first s) (sym ((settled second).0 left′))
      (pair-zero ack seq (disk.reads 1) first fits (leaves first left).fits stands apart (leaves first left).which);
}
recovers-at (suc zero) low ack seq disk settled fits stands apart leaves first second left left′ = record {
  list = second;
  left = left′;
  recovers = subst (λ s. Recovers (state_of ack (slot_reading (disk.reads 0))) seq second s second) (sym ((settled first).0 left))
      (pair-one ack seq (disk.reads 0) second fits (leaves second left′).fits stands apart (leaves second left′).which);
}
recovers-at (suc (suc n)) low ack seq disk settled fits stands apart leaves first second left left′ = absurd (omega arith)

-- a reading that may open
may-open : (keep : Keep) (list : List ℕ) (reading : SlotReading) → slot_reading list ≡ reading → MayOpen keep reading
    → Misses keep.target keep.seq (slot_reading list) ⊎ ((saved : Saved) × IsNext keep.seq list saved)
may-open keep list Shut is may = inl (subst (λ r. Misses keep.target keep.seq r) (sym is) tt)
may-open keep list (Open saved) is may =
    ⊎_elim
    (λ loses. inl (subst (λ r. Misses keep.target keep.seq r) (sym is) loses))
    (λ next. inr (saved, record { reading = is; next = next }))
    may
may-open keep list (Faulty place) is may = absurd may

shut-target : (keep : Keep) (list : List ℕ) → IsBehindGate list → LeavesTarget keep.target keep.seq list
shut-target keep list behind = record {
  fits = behind.fits;
  which = inl (subst (λ r. Misses keep.target keep.seq r) (sym (shut-gate list behind.shut)) tt);
}

unsure-target : (keep : Keep) (reads list : List ℕ) → IsAnyGate reads list → MayOpen keep (slot_reading (opened reads)) → LeavesTarget keep.target keep.seq list
unsure-target keep reads list any may = record {
  fits = any.fits;
  which = ⊎_elim
      (λ shut. inl (subst (λ r. Misses keep.target keep.seq r) (sym shut) tt))
      (λ same. may-open keep list (slot_reading (opened reads)) same may)
      (any-gate reads list any.behind);
}

pub leaves-target : (keep : Keep) (disk : DiskState) → Fits keep disk → (shut : Bool) → is_shut keep keep.target ≡ shut
    → (list : List ℕ) → disk.may_leave keep.target list → LeavesTarget keep.target keep.seq list
leaves-target keep disk fits true is list left = shut-target keep list (fits.shut is list left)
leaves-target keep disk fits false is list left = unsure-target keep (disk.reads keep.target) list (fits.unsure is list left) (fits.opens is)

-- the acknowledged state, by the reading of the slot that isn't the target
pub acknowledged-by : (ack : Option ℕ) (target seq : ℕ) (disk : DiskState) → IsApart ack target seq → state_of ack (slot_reading (disk.reads (other target))) ≡ slot_checkpoint disk ack
acknowledged-by None target seq disk apart = refl
acknowledged-by (Some slot) target seq disk apart = ap (λ (s : ℕ). checkpoint_in (slot_reading (disk.reads s))) (sym apart)

pub with_seq-next : (seq : ℕ) (saved : Saved) (reading : SlotReading) → reading ≡ Open saved → saved.seq ≡ seq + 1 → with_seq (seq + 1) reading ≡ Some saved.checkpoint
with_seq-next seq saved reading is next =
    ap (with_seq (seq + 1)) is ∙ ap (λ b. cond b (Some saved.checkpoint) None) (same-test saved.seq (seq + 1) next)
  where
    same-test : (m n : ℕ) → m ≡ n → eqb m n ≡ true
    same-test m n same = grind (arith, nat_tests)

-- a target that is open with the next seq leaves its state
left-by : (keep : Keep) (disk : DiskState) → Fits keep disk → (shut : Bool) → is_shut keep keep.target ≡ shut → (list : List ℕ) → disk.may_leave keep.target list
    → (saved : Saved) → IsNext keep.seq list saved → left_state keep disk ≡ Some saved.checkpoint
left-by keep disk fits true is list left saved next = absurd (clash (sym (shut-gate list (fits.shut is list left).shut) ∙ next.reading))
  where
    clash : Shut ≡ Open saved → ⊥
    clash e = cc
left-by keep disk fits false is list left saved next =
    ap (λ b. cond b None (with_seq (keep.seq + 1) (slot_reading (opened (disk.reads keep.target))))) is
    ∙ ⊎_elim
    (λ shut. absurd (clash (sym shut ∙ next.reading)))
    (λ same. with_seq-next keep.seq saved (slot_reading (opened (disk.reads keep.target))) (sym same ∙ next.reading) next.next)
    (any-gate (disk.reads keep.target) list (fits.unsure is list left).behind)
  where
    clash : Shut ≡ Open saved → ⊥
    clash e = cc

-- whatever a crash leaves recovers to the acknowledged state or to the left one
pub fits-recovers : (keep : Keep) (disk : DiskState) → Fits keep disk → NowLeaves disk (RecoversToOldOrLeft keep disk)
fits-recovers keep disk fits first second left left′ =
    let pair = recovers-at keep.target fits.target keep.acknowledged keep.seq disk fits.settled fits.kept_fits fits.stands fits.apart
    (leaves-target keep disk fits (is_shut keep keep.target) refl) first second left left′ in
    ⊎_elim
    (λ old. inl (old ∙ ap Recovered (acknowledged-by keep.acknowledged keep.target keep.seq disk fits.apart)))
    (λ next. inr (subst (λ o. IsSomeAnd o (λ checkpoint. RecoversTo checkpoint first second))
    (sym (left-by keep disk fits (is_shut keep keep.target) refl pair.list pair.left next.0 next.1)) next.2))
    pair.recovers.to
