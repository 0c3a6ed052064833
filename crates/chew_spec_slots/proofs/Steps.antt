-- What is known of the slots fits the disk after each device call.
use Rattle.std.specs.Prelude.{◌≡◌, ◌≢◌, ℕ, ◌+◌, ◌<◌, ◌≤◌, Bool, true, false, List, ◌∷◌, length, drop, ◌↔◌, refl}
use Rattle.std.proofs.Common.{arith, inl, inr, sym, ap, ◌∙◌, subst, true≢false}
use Rattle.std.proofs.lemmas.List.{ext_get_or, get_or-drop, length-drop}
use Rattle.chew_spec_disk.specs.Disk.{DiskState, IsDisk, Stays}
use Rattle.chew_spec_disk.specs.Sync.{IsSettled, Syncs}
use Rattle.chew_spec_disk.specs.Write.{Torn, Writes}
use Rattle.chew_spec_slots.specs.Fits.{DoesNotCount, Fits, IsAnyGate, IsBehindGate, MayOpen, Stands}
use Rattle.chew_spec_slots.specs.Keep.{Keep, is_shut, opened, other, with_shut}
use Rattle.chew_spec_slots.specs.Reading.{is_surely_shut, slot_reading}
use Rattle.chew_spec_slots.specs.Slot.{length_limit, open_gate}
use Rattle.chew_spec_slots.proofs.Targets.{shut-gate}

-- the other slot is another
pub other-apart : (slot : ℕ) → slot < 2 → other slot ≢ slot
other-apart slot low same = omega arith

-- a slot that a call left alone
pub record IsSame (slot : ℕ) (before after : DiskState) : Type 0 where
  pub reads : after.reads slot ≡ before.reads slot
  pub outcomes : (list : List ℕ) → after.may_leave slot list ↔ before.may_leave slot list

pub same-settled : (slot : ℕ) (before after : DiskState) → IsSame slot before after → IsSettled before slot → IsSettled after slot
same-settled slot before after same settled list =
    (λ h. (settled list).0 ((same.outcomes list).0 h) ∙ sym same.reads, λ h. (same.outcomes list).1 ((settled list).1 (h ∙ same.reads)))

-- what is known of the target
pub record FitsTarget (keep : Keep) (disk : DiskState) : Type 0 where
  pub shut : is_shut keep keep.target ≡ true → (list : List ℕ) → disk.may_leave keep.target list → IsBehindGate list
  pub unsure : is_shut keep keep.target ≡ false → (list : List ℕ) → disk.may_leave keep.target list → IsAnyGate (disk.reads keep.target) list
  pub opens : is_shut keep keep.target ≡ false → MayOpen keep (slot_reading (opened (disk.reads keep.target)))
  pub old : (list : List ℕ) × disk.may_leave keep.target list × DoesNotCount keep (slot_reading list)

-- where the slot that counts was left alone, only the target has to fit
pub refit : (keep : Keep) (shut : Bool) (before after : DiskState) → Fits keep before → IsDisk after → IsSame (other keep.target) before after
    → is_shut (with_shut keep keep.target shut) (other keep.target) ≡ is_shut keep (other keep.target)
    → FitsTarget (with_shut keep keep.target shut) after → Fits (with_shut keep keep.target shut) after
refit keep shut before after fits is same gate target = record {
  is_disk = is;
  target = fits.target;
  apart = fits.apart;
  settled = same-settled (other keep.target) before after same fits.settled;
  kept_fits = subst (λ (list : List ℕ). length list ≤ length_limit) (sym same.reads) fits.kept_fits;
  stands = subst (λ (list : List ℕ). Stands keep.acknowledged keep.seq (slot_reading list)) (sym same.reads) fits.stands;
  kept_gate = gate ∙ fits.kept_gate ∙ ap is_surely_shut (sym same.reads);
  shut = target.shut;
  unsure = target.unsure;
  opens = target.opens;
  old = target.old;
}

refit-same : (keep : Keep) (before after : DiskState) → Fits keep before → IsDisk after → IsSame (other keep.target) before after → FitsTarget keep after → Fits keep after
refit-same keep before after fits is same target = record {
  is_disk = is;
  target = fits.target;
  apart = fits.apart;
  settled = same-settled (other keep.target) before after same fits.settled;
  kept_fits = subst (λ (list : List ℕ). length list ≤ length_limit) (sym same.reads) fits.kept_fits;
  stands = subst (λ (list : List ℕ). Stands keep.acknowledged keep.seq (slot_reading list)) (sym same.reads) fits.stands;
  kept_gate = fits.kept_gate ∙ ap is_surely_shut (sym same.reads);
  shut = target.shut;
  unsure = target.unsure;
  opens = target.opens;
  old = target.old;
}

pub stays-same : (slot : ℕ) (before after : DiskState) → Stays before after → IsSame slot before after
stays-same slot before after stays = record { reads = stays.reads slot; outcomes = stays.outcomes slot }

pub writes-same : (slot at n each : ℕ) (before after : DiskState) → Writes slot at n before after → each ≢ slot → IsSame each before after
writes-same slot at n each before after writes apart = record { reads = writes.other_read each apart; outcomes = λ list. writes.other_outcomes each list apart }

pub syncs-same : (slot each : ℕ) (before after : DiskState) → Syncs slot before after → each ≢ slot → IsSame each before after
syncs-same slot each before after syncs apart = record { reads = syncs.reads each; outcomes = λ list. syncs.other_outcomes each list apart }

-- a call that changed nothing
pub fits-stays : (keep : Keep) (before after : DiskState) → Fits keep before → Stays before after → IsDisk after → Fits keep after
fits-stays keep before after fits stays is_after =
    refit-same keep before after fits is_after (stays-same (other keep.target) before after stays) (record {
      shut = λ is list left. fits.shut is list ((stays.outcomes keep.target list).0 left);
      unsure = λ is list left. subst (λ reads. IsAnyGate reads list) (sym (stays.reads keep.target)) (fits.unsure is list ((stays.outcomes keep.target list).0 left));
      opens = λ is. subst (λ reads. MayOpen keep (slot_reading (opened reads))) (sym (stays.reads keep.target)) (fits.opens is);
      old = (fits.old.0, (stays.outcomes keep.target fits.old.0).1 fits.old.1, fits.old.2);
    })

-- a torn gate
pub torn-gate : (old new : List ℕ) → Torn 0 1 old new → drop 1 new ≡ drop 1 old
torn-gate old new torn =
    ext_get_or 0 (drop 1 new) (drop 1 old)
    (omega (arith, torn.no_shorter, torn.no_longer, length-drop 1 new, length-drop 1 old))
    (λ k low.
    let inside : 1 + k < length old = omega (arith, torn.no_shorter, torn.no_longer, length-drop 1 new, low) in
    get_or-drop 1 new k 0 ∙ torn.same (1 + k) inside (inr (omega arith)) ∙ sym (get_or-drop 1 old k 0))

torn-gate-fits : (old new : List ℕ) → Torn 0 1 old new → length old ≤ length_limit → length new ≤ length_limit
torn-gate-fits old new torn fits = omega (arith, torn.no_longer)

torn-self : (at n : ℕ) (list : List ℕ) → Torn at n list list
torn-self at n list = record { no_shorter = omega arith; no_longer = omega arith; same = λ k low apart. refl }

-- a gate that is written where it isn't sure
pub fits-gate : (keep : Keep) (before after : DiskState) → Fits keep before → is_shut keep keep.target ≡ false → Writes keep.target 0 1 before after → IsDisk after → Fits keep after
fits-gate keep before after fits unsure writes is_after =
    let reads : drop 1 (after.reads keep.target) ≡ drop 1 (before.reads keep.target) = torn-gate (before.reads keep.target) (after.reads keep.target) writes.read in
    refit-same keep before after fits is_after (writes-same keep.target 0 1 (other keep.target) before after writes (other-apart keep.target fits.target)) (record {
      shut = λ is. absurd (true≢false (sym is ∙ unsure));
      unsure = λ is list left.
          let torn = (writes.outcomes list).0 left in
          let any = fits.unsure unsure torn.0 torn.1 in
          record {
            behind = torn-gate torn.0 list torn.2 ∙ any.behind ∙ sym reads;
            fits = torn-gate-fits torn.0 list torn.2 any.fits;
          };
      opens = λ is. subst (λ (behind : List ℕ). MayOpen keep (slot_reading (open_gate ∷ behind))) (sym reads) (fits.opens unsure);
      old = (fits.old.0, (writes.outcomes fits.old.0).1 (fits.old.0, fits.old.1, torn-self 0 1 fits.old.0), fits.old.2);
    })

-- bytes that are written behind a gate that is surely shut
torn-behind : (n : ℕ) (old new : List ℕ) → Torn 1 n old new → 1 + n ≤ length_limit → IsBehindGate old → IsBehindGate new
torn-behind n old new torn fits behind = record {
  gate = omega (arith, torn.no_shorter, behind.gate);
  shut = λ gate. behind.shut (sym (torn.same 0 (omega (arith, behind.gate)) (inl (omega arith))) ∙ gate);
  fits = omega (arith, torn.no_longer, behind.fits);
}

pub behind-misses : (keep : Keep) (list : List ℕ) → IsBehindGate list → DoesNotCount keep (slot_reading list)
behind-misses keep list behind = subst (λ r. DoesNotCount keep r) (sym (shut-gate list behind.shut)) tt

pub fits-body : (keep : Keep) (n : ℕ) (before after : DiskState) → Fits keep before → is_shut keep keep.target ≡ true → 1 + n ≤ length_limit → Writes keep.target 1 n before after → IsDisk after → Fits keep after
fits-body keep n before after fits is room writes is_after =
    refit-same keep before after fits is_after (writes-same keep.target 1 n (other keep.target) before after writes (other-apart keep.target fits.target)) (record {
      shut = λ also list left.
          let torn = (writes.outcomes list).0 left in
          torn-behind n torn.0 list torn.2 room (fits.shut is torn.0 torn.1);
      unsure = λ unsure. absurd (true≢false (sym is ∙ unsure));
      opens = λ unsure. absurd (true≢false (sym is ∙ unsure));
      old = (fits.old.0, (writes.outcomes fits.old.0).1 (fits.old.0, fits.old.1, torn-self 1 n fits.old.0), fits.old.2);
    })

-- a sync behind a gate that is surely shut
pub fits-synced : (keep : Keep) (before after : DiskState) → Fits keep before → is_shut keep keep.target ≡ true → Syncs keep.target before after → IsDisk after → Fits keep after
fits-synced keep before after fits is syncs is_after =
    let reads = fits.shut is (before.reads keep.target) (fits.is_disk.reads_may_be_left keep.target) in
    let behind : IsBehindGate (after.reads keep.target) = subst (λ list. IsBehindGate list) (sym (syncs.reads keep.target)) reads in
    refit-same keep before after fits is_after (syncs-same keep.target (other keep.target) before after syncs (other-apart keep.target fits.target)) (record {
      shut = λ also list left. subst (λ l. IsBehindGate l) (sym ((syncs.settled list).0 left)) behind;
      unsure = λ unsure. absurd (true≢false (sym is ∙ unsure));
      opens = λ unsure. absurd (true≢false (sym is ∙ unsure));
      old = (after.reads keep.target, (syncs.settled (after.reads keep.target)).1 refl, behind-misses keep (after.reads keep.target) behind);
    })
