-- What is read of the slots of a disk, and what a disk is after calls that only read.
use Rattle.std.specs.Prelude.{◌≡◌, ◌↔◌, ℕ, ◌<◌, ◌≤◌, Bool, true, false, nat_le, List, length, replicate, cond, Some, None, Result, Ok, Err, IfOk, IfErr, refl}
use Rattle.std.proofs.Common.{arith, sym, ap, ap₂, ◌∙◌, subst, true≢false}
use Rattle.std.proofs.lemmas.Bool.Decides.{nat_tests}
use Rattle.std.proofs.lemmas.List.{length-replicate}
use native.Mathlib.Decide.{dec_le}
use Rattle.chew_spec_disk.specs.Disk.{DiskState, IsDisk, last_moment}
use Rattle.chew_spec_disk.specs.Sync.{IsSettled}
use Rattle.chew_spec_disk.proofs.Moments.{later-chain}
use Rattle.chew_spec_slots.specs.Fits.{Fits}
use Rattle.chew_spec_slots.specs.Keep.{Keep, acknowledged_state, found_keep, keep_for, left_state}
use Rattle.chew_spec_slots.specs.Reading.{is_surely_shut, slot_reading}
use Rattle.chew_spec_slots.specs.Recovery.{Recovery, Recovered, checkpoint_of, damage, newest, recovered, refusal, unless_refused}
use Rattle.chew_spec_slots.specs.Slot.{Checkpoint, length_limit}
use Rattle.chew_spec_slots.proofs.Found.{IsFound, found}
use Rattle.chew_slots.specs.Answers.{Answers, AreTold, IsRead, TellsRefusal}
use Rattle.chew_slots.specs.Contents.{reading_of}
use Rattle.chew_slots.specs.ReadOnly.{IsUntouched}
use Rattle.chew_slots.specs.declared.fault.SlotFault.{SlotFault}
use Rattle.chew_slots.specs.declared.fault.SlotFault.TheVariants.{NoMemory}
use Rattle.chew_slots.specs.declared.recovery.Found.{Found}
use Rattle.chew_slots.specs.declared.slot_read.SlotRead.{SlotRead}

-- calls after calls
pub untouched-chain : (first middle last : DiskState) → IsUntouched first middle → IsUntouched middle last → IsUntouched first last
untouched-chain first middle last p q = record {
  later = later-chain first middle last p.later q.later;
  reads = λ slot. q.reads slot ∙ p.reads slot;
  outcomes = λ slot list. (λ h. (p.outcomes slot list).0 ((q.outcomes slot list).0 h), λ h. (q.outcomes slot list).1 ((p.outcomes slot list).1 h));
  between = λ under moment slot list low high. pick under moment slot list low high (dec_le moment middle.moment);
}
  where
    pick : last.moment < last_moment → (moment slot : ℕ) (list : List ℕ) → first.moment < moment → moment ≤ last.moment → Dec (moment ≤ middle.moment)
        → last.might_have_left moment slot list ↔ first.may_leave slot list
    pick under moment slot list low high (yes early) =
        let not_after = q.later.not_before in
        let past = q.later.earlier under moment slot list early in
        let here = p.between (omega arith) moment slot list low early in
        (λ h. here.0 (past.1 h), λ h. past.0 (here.1 h))
    pick under moment slot list low high (no late) =
        let here = q.between under moment slot list (omega arith) high in
        (λ h. (p.outcomes slot list).0 (here.0 h), λ h. here.1 ((p.outcomes slot list).1 h))

-- a slot that is too large, by its length
pub refused-large : (slot : ℕ) (bytes : List ℕ) (len : ℕ) (behind : Recovery) → length bytes ≡ len → length_limit < len → unless_refused (refusal slot bytes) behind ≡ Recovery.TooLarge slot len
refused-large slot bytes len behind is large =
    ap (λ b. unless_refused (cond b (damage slot (slot_reading bytes)) (Some (Recovery.TooLarge slot (length bytes)))) behind) (past-test (length bytes) length_limit (omega arith))
    ∙ ap (Recovery.TooLarge slot) is
  where
    past-test : (m n : ℕ) → n < m → nat_le m n ≡ false
    past-test m n h = grind (arith, nat_tests)

-- bytes of that length, which are those of the disk where it tells them
pub record IsLarge (told : Bool) (reads : List ℕ) (slot len : ℕ) : Type 0 where
  pub bytes : List ℕ
  pub are_told : told ≡ true → bytes ≡ reads
  pub refused : (behind : Recovery) → unless_refused (refusal slot bytes) behind ≡ Recovery.TooLarge slot len

pub large : (told : Bool) (reads : List ℕ) (slot len : ℕ) → (told ≡ true → len ≡ length reads) → length_limit < len → IsLarge told reads slot len
large true reads slot len is big = record { bytes = reads; are_told = λ told. refl; refused = λ behind. refused-large slot reads len behind (sym (is refl)) big }
large false reads slot len is big = record {
  bytes = replicate len 0;
  are_told = λ told. absurd (true≢false (sym told));
  refused = λ behind. refused-large slot (replicate len 0) len behind (length-replicate len 0) big;
}

-- a fault of slot 0, and one of slot 1 behind a slot 0 that isn't refused
pub first-refused : (zero one : List ℕ) (fault : SlotFault) → ((behind : Recovery) → TellsRefusal (unless_refused (refusal 0 zero) behind) fault) → TellsRefusal (recovered zero one) fault
unfolding recovered
first-refused zero one fault tells = tells (unless_refused (refusal 1 one) (Recovered (checkpoint_of (newest (slot_reading zero) (slot_reading one)))))

pub second-refused : (zero one : List ℕ) (fault : SlotFault) → refusal 0 zero ≡ None → ((behind : Recovery) → TellsRefusal (unless_refused (refusal 1 one) behind) fault) → TellsRefusal (recovered zero one) fault
unfolding recovered
second-refused zero one fault fine tells =
    let found = Recovered (checkpoint_of (newest (slot_reading zero) (slot_reading one))) in
    subst (λ r. TellsRefusal (unless_refused r (unless_refused (refusal 1 one) found)) fault) (sym fine) (tells found)

-- two slots of which neither is refused
pub both-read : (zero one : List ℕ) (first second : SlotRead) → IsRead 0 zero first → IsRead 1 one second
    → recovered zero one ≡ Recovered (checkpoint_of (newest (reading_of first.stored) (reading_of second.stored)))
unfolding recovered
both-read zero one first second p q =
    ap₂ (λ r s. unless_refused r (unless_refused s (Recovered (checkpoint_of (newest (slot_reading zero) (slot_reading one)))))) p.fine q.fine
    ∙ ap₂ (λ r s. Recovered (checkpoint_of (newest r s))) p.reading q.reading

pub both-keep : (zero one : List ℕ) (first second : SlotRead) → IsRead 0 zero first → IsRead 1 one second
    → keep_for first.is_shut second.is_shut (newest (reading_of first.stored) (reading_of second.stored)) ≡ found_keep zero one
both-keep zero one first second p q =
    ap₂ (λ a b. keep_for a b (newest (reading_of first.stored) (reading_of second.stored))) (sym p.gate) (sym q.gate)
    ∙ ap₂ (λ r s. keep_for (is_surely_shut zero) (is_surely_shut one) (newest r s)) (sym p.reading) (sym q.reading)

-- what is known of them fits the disk
pub found-fits : (before after : DiskState) (zero one : List ℕ) (checkpoint : Checkpoint) (keep : Keep) → IsUntouched before after → IsDisk after → IsSettled before 0 → IsSettled before 1
    → zero ≡ before.reads 0 → one ≡ before.reads 1 → recovered zero one ≡ Recovered checkpoint → keep ≡ found_keep zero one → IsFound keep after checkpoint
found-fits before after zero one checkpoint keep same is settled settled′ at_zero at_one found_is keep_is =
    let zero_after : zero ≡ after.reads 0 = at_zero ∙ sym (same.reads 0) in
    let one_after : one ≡ after.reads 1 = at_one ∙ sym (same.reads 1) in
    let there : recovered (after.reads 0) (after.reads 1) ≡ Recovered checkpoint = ap₂ recovered (sym zero_after) (sym one_after) ∙ found_is in
    subst (λ k. IsFound k after checkpoint) (ap₂ found_keep (sym zero_after) (sym one_after) ∙ sym keep_is)
    (found after checkpoint is (settle 0 settled) (settle 1 settled′) there)
  where
    settle : (slot : ℕ) → IsSettled before slot → IsSettled after slot
    settle slot settled list = (λ h. (settled list).0 ((same.outcomes slot list).0 h) ∙ sym (same.reads slot), λ h. (same.outcomes slot list).1 ((settled list).1 (h ∙ same.reads slot)))

-- what recovery answers
pub answer-by : (zero one : List ℕ) (first second : SlotRead) (result : Result Found SlotFault) → IsRead 0 zero first → IsRead 1 one second
    → IfOk result (λ found. found.keep ≡ keep_for first.is_shut second.is_shut (newest (reading_of first.stored) (reading_of second.stored)))
    → IfOk result (λ found. checkpoint_of (newest (reading_of first.stored) (reading_of second.stored)) ≡ record { life = found.life; rows = found.map })
    → IfErr result (λ fault. fault ≡ NoMemory) → Answers (recovered zero one) (found_keep zero one) result
answer-by zero one first second (Ok found) p q keep state memory = (both-read zero one first second p q ∙ ap Recovered state, keep ∙ both-keep zero one first second p q)
answer-by zero one first second (Err fault) p q keep state memory = subst (λ f. TellsRefusal (recovered zero one) f) (sym memory) tt

-- a fault that tells nothing of the bytes
pub refused-any : {T : Type 0} (told : Bool) (reads : List ℕ) (slot : ℕ) (result : Result T SlotFault) → IfErr result (λ fault. (recovery : Recovery) → TellsRefusal recovery fault)
    → IfErr result (λ fault. (bytes : List ℕ) × AreTold told reads bytes × ((behind : Recovery) → TellsRefusal (unless_refused (refusal slot bytes) behind) fault))
refused-any told reads slot (Ok x) free = tt
refused-any told reads slot (Err fault) free = (reads, λ told. refl, λ behind. free (unless_refused (refusal slot reads) behind))

-- what is known of what was found
pub found-ok : (before after : DiskState) (zero one : List ℕ) (result : Result Found SlotFault) → IsUntouched before after → IsDisk after → IsSettled before 0 → IsSettled before 1
    → zero ≡ before.reads 0 → one ≡ before.reads 1 → Answers (recovered zero one) (found_keep zero one) result
    → IfOk result (λ found. IsFound found.keep after (record { life = found.life; rows = found.map }))
found-ok before after zero one (Ok found) same is settled settled′ at_zero at_one answer =
    found-fits before after zero one (record { life = found.life; rows = found.map }) found.keep same is settled settled′ at_zero at_one answer.0 answer.1
found-ok before after zero one (Err fault) same is settled settled′ at_zero at_one answer = tt

pub fits-ok : (after : DiskState) (result : Result Found SlotFault) → IfOk result (λ found. IsFound found.keep after (record { life = found.life; rows = found.map })) → IfOk result (λ found. Fits found.keep after)
fits-ok after (Ok found) is = is.fits
fits-ok after (Err fault) is = tt

pub state-ok : (after : DiskState) (result : Result Found SlotFault) → IfOk result (λ found. IsFound found.keep after (record { life = found.life; rows = found.map }))
    → IfOk result (λ found. acknowledged_state found.keep after ≡ record { life = found.life; rows = found.map })
state-ok after (Ok found) is = is.state
state-ok after (Err fault) is = tt

pub left-ok : (after : DiskState) (result : Result Found SlotFault) → IfOk result (λ found. IsFound found.keep after (record { life = found.life; rows = found.map })) → IfOk result (λ found. left_state found.keep after ≡ None)
left-ok after (Ok found) is = is.left
left-ok after (Err fault) is = tt

-- the same by what each slot was read as
pub all-found : (before middle after : DiskState) (zero one : List ℕ) (first second : SlotRead) (result : Result Found SlotFault) → IsUntouched before middle → IsUntouched middle after → IsDisk after
    → IsSettled before 0 → IsSettled before 1 → zero ≡ before.reads 0 → one ≡ middle.reads 1 → IsRead 0 zero first → IsRead 1 one second
    → IfOk result (λ found. found.keep ≡ keep_for first.is_shut second.is_shut (newest (reading_of first.stored) (reading_of second.stored)))
    → IfOk result (λ found. checkpoint_of (newest (reading_of first.stored) (reading_of second.stored)) ≡ record { life = found.life; rows = found.map })
    → IfErr result (λ fault. fault ≡ NoMemory) → IfOk result (λ found. IsFound found.keep after (record { life = found.life; rows = found.map }))
all-found before middle after zero one first second result same same′ is settled settled′ at_zero at_one p q keep state memory =
    found-ok before after zero one result (untouched-chain before middle after same same′) is settled settled′ at_zero (at_one ∙ same.reads 1)
    (answer-by zero one first second result p q keep state memory)
