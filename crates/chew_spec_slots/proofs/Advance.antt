-- What is known of the slots fits the disk once a gate is surely shut, once it is to be lifted, and once it is lifted.
use Rattle.std.specs.Prelude.{◌≡◌, ◌≢◌, ◌⊎◌, ℕ, zero, suc, ◌+◌, ◌<◌, ◌≤◌, Bool, true, false, not, ◌&&◌, ◌==◌, nat_le, List, [], ◌∷◌, length, slice_index, cond, Option, Some, None, refl}
use Rattle.std.proofs.Common.{arith, eqb, inl, inr, sym, ap, ◌∙◌, subst, true≢false, ⊎_elim}
use Rattle.std.proofs.lemmas.Bool.{cases_eq}
use Rattle.std.proofs.lemmas.Bool.Decides.{nat_tests}
use Rattle.chew_spec_disk.specs.Disk.{DiskState, IsDisk}
use Rattle.chew_spec_disk.specs.Sync.{IsSettled, Syncs}
use Rattle.chew_spec_slots.specs.Fits.{DoesNotCount, Fits, IsAnyGate, IsBehindGate, IsFilled, MayOpen, Stands}
use Rattle.chew_spec_slots.specs.Keep.{Keep, acknowledged_state, advanced, checkpoint_in, is_shut, left_state, opened, other, with_seq, with_shut}
use Rattle.chew_spec_slots.specs.Reading.{SlotReading, Shut, Open, Faulty, is_surely_shut, slot_reading}
use Rattle.chew_spec_slots.specs.Slot.{Saved, length_limit, open_gate}
use Rattle.chew_spec_slots.proofs.Steps.{IsSame, behind-misses, other-apart, refit, same-settled, syncs-same}

-- the gates that are surely shut
pub with_shut-own : (keep : Keep) (shut : Bool) (slot : ℕ) → slot < 2 → is_shut (with_shut keep slot shut) slot ≡ shut
with_shut-own keep shut zero low = refl
with_shut-own keep shut (suc zero) low = refl
with_shut-own keep shut (suc (suc n)) low = absurd (omega arith)

pub with_shut-other : (keep : Keep) (shut : Bool) (slot : ℕ) → slot < 2 → is_shut (with_shut keep slot shut) (other slot) ≡ is_shut keep (other slot)
with_shut-other keep shut zero low = refl
with_shut-other keep shut (suc zero) low = refl
with_shut-other keep shut (suc (suc n)) low = absurd (omega arith)

-- a gate that was shut and synced
pub fits-shut : (keep : Keep) (before after : DiskState) → Fits keep before → is_shut keep keep.target ≡ false
    → slice_index (before.reads keep.target) 0 ≢ open_gate → 1 ≤ length (before.reads keep.target) → Syncs keep.target before after
    → IsDisk after → Fits (with_shut keep keep.target true) after
fits-shut keep before after fits is gate some syncs is_after =
    let any = fits.unsure is (before.reads keep.target) (fits.is_disk.reads_may_be_left keep.target) in
    let behind : IsBehindGate (after.reads keep.target) =
    subst (λ list. IsBehindGate list) (sym (syncs.reads keep.target)) (record { gate = some; shut = gate; fits = any.fits }) in
    refit keep true before after fits is_after (syncs-same keep.target (other keep.target) before after syncs (other-apart keep.target fits.target))
    (with_shut-other keep true keep.target fits.target)
    (record {
      shut = λ also list left. subst (λ l. IsBehindGate l) (sym ((syncs.settled list).0 left)) behind;
      unsure = λ unsure. absurd (true≢false (sym (with_shut-own keep true keep.target fits.target) ∙ unsure));
      opens = λ unsure. absurd (true≢false (sym (with_shut-own keep true keep.target fits.target) ∙ unsure));
      old = (after.reads keep.target, (syncs.settled (after.reads keep.target)).1 refl, behind-misses (with_shut keep keep.target true) (after.reads keep.target) behind);
    })

-- a gate that is to be lifted over a checkpoint that can't be lost
pub fits-unsure : (keep : Keep) (disk : DiskState) (saved : Saved) → Fits keep disk → IsFilled keep disk saved → Fits (with_shut keep keep.target false) disk
fits-unsure keep disk saved fits filled =
    let behind = fits.shut filled.shut (disk.reads keep.target) (fits.is_disk.reads_may_be_left keep.target) in
    refit keep false disk disk fits fits.is_disk (record { reads = refl; outcomes = λ list. (λ h. h, λ h. h) })
    (with_shut-other keep false keep.target fits.target)
    (record {
      shut = λ also. absurd (true≢false (sym also ∙ with_shut-own keep false keep.target fits.target));
      unsure = λ unsure list left. subst (λ l. IsAnyGate (disk.reads keep.target) l) (sym ((filled.settled list).0 left)) (record { behind = refl; fits = behind.fits });
      opens = λ unsure. subst (λ r. MayOpen (with_shut keep keep.target false) r) (sym filled.opens) (inr filled.next);
      old = (disk.reads keep.target, fits.is_disk.reads_may_be_left keep.target, behind-misses (with_shut keep keep.target false) (disk.reads keep.target) behind);
    })

-- a list with an open gate
opened-same : (list : List ℕ) → 1 ≤ length list → slice_index list 0 ≡ open_gate → opened list ≡ list
opened-same [] some gate = absurd (omega arith)
opened-same (first ∷ behind) some gate = ap (λ g. g ∷ behind) (sym gate)

not-shut : (list : List ℕ) → is_surely_shut list ≡ false → (list ≡ []) ⊎ (opened list ≡ list)
not-shut [] is = inl refl
not-shut (first ∷ behind) is =
    ⊎_elim
    (λ same. inr (ap (λ g. g ∷ behind) (sym same)))
    (λ apart. absurd (true≢false (sym (shut-test first (length behind) apart) ∙ is)))
    (cases_eq first open_gate)
  where
    shut-test : (first n : ℕ) → first ≢ open_gate → (nat_le 1 (suc n) && not (first == open_gate)) ≡ true
    shut-test first n apart = grind (arith, nat_tests)

-- the gates of a keep that is advanced
advanced-own : (keep : Keep) → (target : ℕ) → target < 2 → keep.target ≡ target → is_shut (advanced keep) target ≡ false
advanced-own keep zero low is = ap (λ (t : ℕ). cond (t == 0) false keep.zero_shut) is
advanced-own keep (suc zero) low is = ap (λ (t : ℕ). cond (t == 0) keep.one_shut false) is
advanced-own keep (suc (suc n)) low is = absurd (omega arith)

advanced-other : (keep : Keep) → (target : ℕ) → target < 2 → keep.target ≡ target → is_shut (advanced keep) (other target) ≡ is_shut keep (other target)
advanced-other keep zero low is = ap (λ (t : ℕ). cond (t == 0) keep.one_shut false) is
advanced-other keep (suc zero) low is = ap (λ (t : ℕ). cond (t == 0) false keep.zero_shut) is
advanced-other keep (suc (suc n)) low is = absurd (omega arith)

pub surely-parts : (list : List ℕ) → is_surely_shut list ≡ true → (1 ≤ length list) × (slice_index list 0 ≢ open_gate)
surely-parts [] is = absurd (true≢false (sym is))
surely-parts (first ∷ behind) is = (omega arith, λ gate. absurd (true≢false (sym is ∙ same-test first (length behind) gate)))
  where
    same-test : (first n : ℕ) → first ≡ open_gate → (nat_le 1 (suc n) && not (first == open_gate)) ≡ false
    same-test first n same = grind (arith, nat_tests)

open-not-shut : (list : List ℕ) → slice_index list 0 ≡ open_gate → is_surely_shut list ≡ false
open-not-shut list gate = go (nat_le 1 (length list)) (slice_index list 0) gate
  where
    go : (b : Bool) (first : ℕ) → first ≡ open_gate → (b && not (first == open_gate)) ≡ false
    go b first same = grind (arith, nat_tests)

-- how the slot that counted reads once it is the target
pub opened-kept : (list : List ℕ) → is_surely_shut list ≡ false → (slot_reading (opened list) ≡ slot_reading list)
opened-kept list is =
    ⊎_elim
    (λ none. ap (λ l. slot_reading (opened l)) none ∙ sym (ap slot_reading none))
    (λ same. ap slot_reading same)
    (not-shut list is)

may-open-kept : (keep : Keep) (ack : Option ℕ) (seq : ℕ) (reading : SlotReading) → Stands ack seq reading → seq < keep.seq → MayOpen keep reading
may-open-kept keep None seq reading stands less = subst (λ r. MayOpen keep r) (sym stands) tt
may-open-kept keep (Some slot) seq (Open saved) stands less = inl (inl (omega (arith, stands)))
may-open-kept keep (Some slot) seq Shut stands less = absurd stands
may-open-kept keep (Some slot) seq (Faulty place) stands less = absurd stands

misses-kept : (keep : Keep) (ack : Option ℕ) (seq : ℕ) (reading : SlotReading) → Stands ack seq reading → seq < keep.seq → DoesNotCount keep reading
misses-kept keep None seq reading stands less = subst (λ r. DoesNotCount keep r) (sym stands) tt
misses-kept keep (Some slot) seq (Open saved) stands less = inl (omega (arith, stands))
misses-kept keep (Some slot) seq Shut stands less = absurd stands
misses-kept keep (Some slot) seq (Faulty place) stands less = absurd stands

not-next-kept : (ack : Option ℕ) (seq next : ℕ) (reading : SlotReading) → Stands ack seq reading → seq < next → with_seq next reading ≡ None
not-next-kept None seq next reading stands less = ap (with_seq next) stands
not-next-kept (Some slot) seq next (Open saved) stands less = ap (λ b. cond b (Some saved.checkpoint) None) (apart-test saved.seq next (omega (arith, stands)))
  where
    apart-test : (m n : ℕ) → m < n → eqb m n ≡ false
    apart-test m n h = grind (arith, nat_tests)
not-next-kept (Some slot) seq next Shut stands less = refl
not-next-kept (Some slot) seq next (Faulty place) stands less = refl

-- the slot that counted, as the target of the next checkpoint
record Retired (keep : Keep) (disk : DiskState) (slot : ℕ) : Type 0 where
  settled : IsSettled disk slot
  fits : length (disk.reads slot) ≤ length_limit
  stands : Stands keep.acknowledged keep.seq (slot_reading (disk.reads slot))
  gate : is_shut (advanced keep) slot ≡ is_surely_shut (disk.reads slot)

retire : (keep : Keep) (before after : DiskState) → Fits keep before → IsSame (other keep.target) before after → Retired keep after (other keep.target)
retire keep before after fits same = record {
  settled = same-settled (other keep.target) before after same fits.settled;
  fits = subst (λ (list : List ℕ). length list ≤ length_limit) (sym same.reads) fits.kept_fits;
  stands = subst (λ (list : List ℕ). Stands keep.acknowledged keep.seq (slot_reading list)) (sym same.reads) fits.stands;
  gate = advanced-other keep keep.target fits.target refl ∙ fits.kept_gate ∙ ap is_surely_shut (sym same.reads);
}

retired-behind : (keep : Keep) (disk : DiskState) (slot : ℕ) → Retired keep disk slot → is_shut (advanced keep) slot ≡ true → (list : List ℕ) → disk.may_leave slot list → IsBehindGate list
retired-behind keep disk slot old is list left =
    let parts = surely-parts (disk.reads slot) (sym old.gate ∙ is) in
    subst (λ l. IsBehindGate l) (sym ((old.settled list).0 left)) (record { gate = parts.0; shut = parts.1; fits = old.fits })

retired-any : (keep : Keep) (disk : DiskState) (slot : ℕ) → Retired keep disk slot → (list : List ℕ) → disk.may_leave slot list → IsAnyGate (disk.reads slot) list
retired-any keep disk slot old list left =
    subst (λ l. IsAnyGate (disk.reads slot) l) (sym ((old.settled list).0 left)) (record { behind = refl; fits = old.fits })

-- a gate that was lifted and synced
pub fits-advanced : (keep : Keep) (before after : DiskState) (saved : Saved) → Fits keep before → is_shut keep keep.target ≡ false
    → slice_index (before.reads keep.target) 0 ≡ open_gate → 1 ≤ length (before.reads keep.target)
    → slot_reading (opened (before.reads keep.target)) ≡ Open saved → saved.seq ≡ keep.seq + 1 → Syncs keep.target before after → IsDisk after → Fits (advanced keep) after
fits-advanced keep before after saved fits is gate some opens next syncs is_after =
    let t = keep.target in
    let low = fits.target in
    let back : t ≡ other (other t) = omega arith in
    let reads : after.reads t ≡ before.reads t = syncs.reads t in
    let reading : slot_reading (after.reads t) ≡ Open saved = ap slot_reading (reads ∙ sym (opened-same (before.reads t) some gate)) ∙ opens in
    let any = fits.unsure is (before.reads t) (fits.is_disk.reads_may_be_left t) in
    let old = retire keep before after fits (syncs-same t (other t) before after syncs (other-apart t low)) in
    record {
      is_disk = is_after;
      target = omega arith;
      apart = back;
      settled = subst (λ (s : ℕ). IsSettled after s) back syncs.settled;
      kept_fits = subst (λ (s : ℕ). length (after.reads s) ≤ length_limit) back (subst (λ (list : List ℕ). length list ≤ length_limit) (sym reads) any.fits);
      stands = subst (λ (s : ℕ). Stands (Some t) (keep.seq + 1) (slot_reading (after.reads s))) back (subst (λ r. Stands (Some t) (keep.seq + 1) r) (sym reading) next);
      kept_gate = subst (λ (s : ℕ). is_shut (advanced keep) s ≡ is_surely_shut (after.reads s)) back
          (advanced-own keep t low refl ∙ sym (open-not-shut (after.reads t) (ap (λ list. slice_index list 0) reads ∙ gate)));
      shut = λ shut. retired-behind keep after (other t) old shut;
      unsure = λ unsure. retired-any keep after (other t) old;
      opens = λ unsure. subst (λ r. MayOpen (advanced keep) r) (sym (opened-kept (after.reads (other t)) (sym old.gate ∙ unsure)))
          (may-open-kept (advanced keep) keep.acknowledged keep.seq (slot_reading (after.reads (other t))) old.stands (omega arith));
      old = (
        after.reads (other t),
        (old.settled (after.reads (other t))).1 refl,
        misses-kept (advanced keep) keep.acknowledged keep.seq (slot_reading (after.reads (other t))) old.stands (omega arith),
      );
    }

-- it then stands for the state that counts, and leaves none
pub advanced-state : (keep : Keep) (before after : DiskState) (saved : Saved) → slice_index (before.reads keep.target) 0 ≡ open_gate → 1 ≤ length (before.reads keep.target)
    → slot_reading (opened (before.reads keep.target)) ≡ Open saved → Syncs keep.target before after → acknowledged_state (advanced keep) after ≡ saved.checkpoint
advanced-state keep before after saved gate some opens syncs =
    ap checkpoint_in (ap slot_reading (syncs.reads keep.target ∙ sym (opened-same (before.reads keep.target) some gate)) ∙ opens)

pub advanced-left : (keep : Keep) (before after : DiskState) → Fits keep before → Syncs keep.target before after → left_state (advanced keep) after ≡ None
advanced-left keep before after fits syncs = by (is_shut (advanced keep) (other keep.target)) refl
  where
    t : ℕ
    t = keep.target

    by : (shut : Bool) → is_shut (advanced keep) (other keep.target) ≡ shut → left_state (advanced keep) after ≡ None
    by true is = ap (λ b. cond b None (with_seq (keep.seq + 1 + 1) (slot_reading (opened (after.reads (other keep.target)))))) is
    by false is =
        let old = retire keep before after fits (syncs-same keep.target (other keep.target) before after syncs (other-apart keep.target fits.target)) in
        ap (λ b. cond b None (with_seq (keep.seq + 1 + 1) (slot_reading (opened (after.reads (other keep.target)))))) is
        ∙ ap (with_seq (keep.seq + 1 + 1)) (opened-kept (after.reads (other keep.target)) (sym old.gate ∙ is))
        ∙ not-next-kept keep.acknowledged keep.seq (keep.seq + 1 + 1) (slot_reading (after.reads (other keep.target))) old.stands (omega arith)
