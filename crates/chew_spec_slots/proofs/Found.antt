-- What recovery knows of two slots fits the disk that they were read from, where nothing is pending.
use Rattle.std.specs.Prelude.{◌≡◌, ◌≢◌, ◌⊎◌, ℕ, ◌+◌, ◌<◌, ◌≤◌, Bool, true, false, nat_le, nat_lt, List, length, cond, Some, None, refl}
use Rattle.std.proofs.Common.{arith, eqb, inl, inr, sym, ap, ◌∙◌, subst, ⊎_elim}
use Rattle.std.proofs.lemmas.Bool.Decides.{nat_tests}
use Rattle.chew_spec_disk.specs.Disk.{DiskState, IsDisk}
use Rattle.chew_spec_disk.specs.Sync.{IsSettled}
use Rattle.chew_spec_slots.specs.Fits.{DoesNotCount, Fits, IsAnyGate, IsApart, IsBehindGate, MayOpen, Stands}
use Rattle.chew_spec_slots.specs.Keep.{Keep, acknowledged_state, checkpoint_in, found_keep, is_shut, keep_for, left_state, opened, other, with_seq}
use Rattle.chew_spec_slots.specs.Reading.{SlotReading, Shut, Open, Faulty, is_surely_shut, slot_reading}
use Rattle.chew_spec_slots.specs.Recovery.{Recovery, Recovered, checkpoint_of, damage, newest, recovered, refusal, unless_refused}
use Rattle.chew_spec_slots.specs.Slot.{Checkpoint, Saved, length_limit, no_checkpoint}
use Rattle.chew_spec_slots.proofs.Advance.{opened-kept, surely-parts}
use Rattle.chew_spec_slots.proofs.Steps.{FitsTarget}

-- a target that doesn't count does not come up with its gate open either
may-open-missed : (keep : Keep) (reading : SlotReading) → DoesNotCount keep reading → MayOpen keep reading
may-open-missed keep Shut misses = tt
may-open-missed keep (Open saved) misses = inl misses
may-open-missed keep (Faulty place) misses = misses

not-next-missed : (keep : Keep) (reading : SlotReading) → DoesNotCount keep reading → with_seq (keep.seq + 1) reading ≡ None
not-next-missed keep Shut misses = refl
not-next-missed keep (Open saved) misses =
    ap (λ b. cond b (Some saved.checkpoint) None)
    (apart-test saved.seq (keep.seq + 1) (⊎_elim (λ less same. omega (arith, less, same)) (λ equal same. omega (arith, equal.1, same)) misses))
  where
    apart-test : (m n : ℕ) → m ≢ n → eqb m n ≡ false
    apart-test m n apart = grind (arith, nat_tests)
not-next-missed keep (Faulty place) misses = absurd misses

-- what is known of a target that has nothing pending
settled-target : (keep : Keep) (disk : DiskState) → IsSettled disk keep.target → length (disk.reads keep.target) ≤ length_limit
    → is_shut keep keep.target ≡ is_surely_shut (disk.reads keep.target) → DoesNotCount keep (slot_reading (disk.reads keep.target)) → FitsTarget keep disk
settled-target keep disk settled fits gate misses = record {
  shut = λ is list left.
      let parts = surely-parts (disk.reads keep.target) (sym gate ∙ is) in
      subst (λ l. IsBehindGate l) (sym ((settled list).0 left)) (record { gate = parts.0; shut = parts.1; fits = fits });
  unsure = λ is list left. subst (λ l. IsAnyGate (disk.reads keep.target) l) (sym ((settled list).0 left)) (record { behind = refl; fits = fits });
  opens = λ is. subst (λ r. MayOpen keep r) (sym (opened-kept (disk.reads keep.target) (sym gate ∙ is)))
      (may-open-missed keep (slot_reading (disk.reads keep.target)) misses);
  old = (disk.reads keep.target, (settled (disk.reads keep.target)).1 refl, misses);
}

no-left : (keep : Keep) (disk : DiskState) → is_shut keep keep.target ≡ is_surely_shut (disk.reads keep.target) → DoesNotCount keep (slot_reading (disk.reads keep.target))
    → (shut : Bool) → is_shut keep keep.target ≡ shut → left_state keep disk ≡ None
no-left keep disk gate misses true is = ap (λ b. cond b None (with_seq (keep.seq + 1) (slot_reading (opened (disk.reads keep.target))))) is
no-left keep disk gate misses false is =
    ap (λ b. cond b None (with_seq (keep.seq + 1) (slot_reading (opened (disk.reads keep.target))))) is
    ∙ ap (with_seq (keep.seq + 1)) (opened-kept (disk.reads keep.target) (sym gate ∙ is))
    ∙ not-next-missed keep (slot_reading (disk.reads keep.target)) misses

-- a slot that has nothing pending and is not too large
record IsQuiet (disk : DiskState) (slot : ℕ) : Type 0 where
  settled : IsSettled disk slot
  fits : length (disk.reads slot) ≤ length_limit

-- what is known of two slots, one of which counts or neither
record Knows (keep : Keep) (disk : DiskState) : Type 0 where
  target : keep.target < 2
  apart : IsApart keep.acknowledged keep.target keep.seq
  stands : Stands keep.acknowledged keep.seq (slot_reading (disk.reads (other keep.target)))
  kept_gate : is_shut keep (other keep.target) ≡ is_surely_shut (disk.reads (other keep.target))
  target_gate : is_shut keep keep.target ≡ is_surely_shut (disk.reads keep.target)
  misses : DoesNotCount keep (slot_reading (disk.reads keep.target))

fits-known : (keep : Keep) (disk : DiskState) → IsDisk disk → Knows keep disk → IsQuiet disk (other keep.target) → IsQuiet disk keep.target → Fits keep disk
fits-known keep disk is_disk knows kept target =
    let t = settled-target keep disk target.settled target.fits knows.target_gate knows.misses in
    record {
      is_disk = is_disk;
      target = knows.target;
      apart = knows.apart;
      settled = kept.settled;
      kept_fits = kept.fits;
      stands = knows.stands;
      kept_gate = knows.kept_gate;
      shut = t.shut;
      unsure = t.unsure;
      opens = t.opens;
      old = t.old;
    }

-- what recovery finds fits, stands for what it found, and leaves nothing else
pub record IsFound (keep : Keep) (disk : DiskState) (checkpoint : Checkpoint) : Type 0 where
  pub fits : Fits keep disk
  pub state : acknowledged_state keep disk ≡ checkpoint
  pub left : left_state keep disk ≡ None

found-known : (keep : Keep) (disk : DiskState) (checkpoint : Checkpoint) → IsDisk disk → Knows keep disk → IsQuiet disk (other keep.target) → IsQuiet disk keep.target
    → acknowledged_state keep disk ≡ checkpoint → IsFound keep disk checkpoint
found-known keep disk checkpoint is_disk knows kept target state = record {
  fits = fits-known keep disk is_disk knows kept target;
  state = state;
  left = no-left keep disk knows.target_gate knows.misses (is_shut keep keep.target) refl;
}

-- slot 0 counts
zero-known : (disk : DiskState) (saved : Saved) → slot_reading (disk.reads 0) ≡ Open saved
    → DoesNotCount (keep_for (is_surely_shut (disk.reads 0)) (is_surely_shut (disk.reads 1)) (Some (record { slot = 0; saved = saved }))) (slot_reading (disk.reads 1))
    → Knows (keep_for (is_surely_shut (disk.reads 0)) (is_surely_shut (disk.reads 1)) (Some (record { slot = 0; saved = saved }))) disk
zero-known disk saved is misses = record {
  target = omega arith;
  apart = refl;
  stands = subst (λ r. Stands (Some 0) saved.seq r) (sym is) refl;
  kept_gate = refl;
  target_gate = refl;
  misses = misses;
}

-- slot 1 counts
one-known : (disk : DiskState) (saved : Saved) → slot_reading (disk.reads 1) ≡ Open saved
    → DoesNotCount (keep_for (is_surely_shut (disk.reads 0)) (is_surely_shut (disk.reads 1)) (Some (record { slot = 1; saved = saved }))) (slot_reading (disk.reads 0))
    → Knows (keep_for (is_surely_shut (disk.reads 0)) (is_surely_shut (disk.reads 1)) (Some (record { slot = 1; saved = saved }))) disk
one-known disk saved is misses = record {
  target = omega arith;
  apart = refl;
  stands = subst (λ r. Stands (Some 1) saved.seq r) (sym is) refl;
  kept_gate = refl;
  target_gate = refl;
  misses = misses;
}

-- no slot counts
none-known : (disk : DiskState) → slot_reading (disk.reads 0) ≡ Shut → slot_reading (disk.reads 1) ≡ Shut
    → Knows (keep_for (is_surely_shut (disk.reads 0)) (is_surely_shut (disk.reads 1)) None) disk
none-known disk zero one = record {
  target = omega arith;
  apart = (refl, refl);
  stands = one;
  kept_gate = refl;
  target_gate = refl;
  misses = subst (λ r. DoesNotCount (keep_for (is_surely_shut (disk.reads 0)) (is_surely_shut (disk.reads 1)) None) r) (sym zero) tt;
}

not-below : (m n : ℕ) → nat_lt m n ≡ false → n ≤ m
not-below m n h = grind (arith, nat_tests)

below : (m n : ℕ) → nat_lt m n ≡ true → m < n
below m n h = grind (arith, nat_tests)

-- two open slots
both-open : (disk : DiskState) (saved next : Saved) → IsDisk disk → IsQuiet disk 0 → IsQuiet disk 1 → slot_reading (disk.reads 0) ≡ Open saved → slot_reading (disk.reads 1) ≡ Open next
    → (newer : Bool) → nat_lt saved.seq next.seq ≡ newer
    → IsFound (keep_for (is_surely_shut (disk.reads 0)) (is_surely_shut (disk.reads 1)) (cond newer (Some (record { slot = 1; saved = next })) (Some (record { slot = 0; saved = saved })))) disk
    (checkpoint_of (cond newer (Some (record { slot = 1; saved = next })) (Some (record { slot = 0; saved = saved }))))
both-open disk saved next is_disk quiet_zero quiet_one zero one true is =
    let keep = keep_for (is_surely_shut (disk.reads 0)) (is_surely_shut (disk.reads 1)) (Some (record { slot = 1; saved = next })) in
    found-known keep disk next.checkpoint is_disk
    (one-known disk next one (subst (λ r. DoesNotCount keep r) (sym zero) (inl (below saved.seq next.seq is)))) quiet_one quiet_zero (ap checkpoint_in one)
both-open disk saved next is_disk quiet_zero quiet_one zero one false is =
    let keep = keep_for (is_surely_shut (disk.reads 0)) (is_surely_shut (disk.reads 1)) (Some (record { slot = 0; saved = saved })) in
    found-known keep disk saved.checkpoint is_disk
    (zero-known disk saved zero (subst (λ r. DoesNotCount keep r) (sym one) (loses 1 next.seq saved.seq refl (not-below saved.seq next.seq is)))) quiet_zero quiet_one (ap checkpoint_in zero)
  where
    loses : (target m n : ℕ) → target ≡ 1 → m ≤ n → (m < n) ⊎ ((target ≡ 1) × (m ≡ n))
    loses target m n is low = ⊎_elim (λ less. inl less) (λ same. inr (is, same)) (split m n low)
      where
        split : (m n : ℕ) → m ≤ n → (m < n) ⊎ (m ≡ n)
        split m n low = grind (arith, nat_tests)

-- by how both read
found-by : (disk : DiskState) → IsDisk disk → IsQuiet disk 0 → IsQuiet disk 1 → (zero one : SlotReading) → slot_reading (disk.reads 0) ≡ zero → slot_reading (disk.reads 1) ≡ one
    → damage 0 zero ≡ None → damage 1 one ≡ None
    → IsFound (keep_for (is_surely_shut (disk.reads 0)) (is_surely_shut (disk.reads 1)) (newest zero one)) disk (checkpoint_of (newest zero one))
found-by disk is_disk quiet_zero quiet_one (Open saved) (Open next) zero one fine fine′ =
    both-open disk saved next is_disk quiet_zero quiet_one zero one (nat_lt saved.seq next.seq) refl
found-by disk is_disk quiet_zero quiet_one (Open saved) Shut zero one fine fine′ =
    let keep = keep_for (is_surely_shut (disk.reads 0)) (is_surely_shut (disk.reads 1)) (Some (record { slot = 0; saved = saved })) in
    found-known keep disk saved.checkpoint is_disk (zero-known disk saved zero (subst (λ r. DoesNotCount keep r) (sym one) tt)) quiet_zero quiet_one (ap checkpoint_in zero)
found-by disk is_disk quiet_zero quiet_one Shut (Open next) zero one fine fine′ =
    let keep = keep_for (is_surely_shut (disk.reads 0)) (is_surely_shut (disk.reads 1)) (Some (record { slot = 1; saved = next })) in
    found-known keep disk next.checkpoint is_disk (one-known disk next one (subst (λ r. DoesNotCount keep r) (sym zero) tt)) quiet_one quiet_zero (ap checkpoint_in one)
found-by disk is_disk quiet_zero quiet_one Shut Shut zero one fine fine′ =
    found-known (keep_for (is_surely_shut (disk.reads 0)) (is_surely_shut (disk.reads 1)) None) disk no_checkpoint is_disk (none-known disk zero one) quiet_one quiet_zero refl
found-by disk is_disk quiet_zero quiet_one (Faulty place) one zero one′ fine fine′ = absurd cc
found-by disk is_disk quiet_zero quiet_one (Open saved) (Faulty place) zero one fine fine′ = absurd cc
found-by disk is_disk quiet_zero quiet_one Shut (Faulty place) zero one fine fine′ = absurd cc

-- a slot that isn't refused
le-holds : (m n : ℕ) → nat_le m n ≡ true → m ≤ n
le-holds m n h = grind (arith, nat_tests)

pub record IsAccepted (slot : ℕ) (bytes : List ℕ) : Type 0 where
  pub fits : length bytes ≤ length_limit
  pub fine : damage slot (slot_reading bytes) ≡ None

pub accepted : (slot : ℕ) (bytes : List ℕ) → refusal slot bytes ≡ None → IsAccepted slot bytes
accepted slot bytes none = by (nat_le (length bytes) length_limit) refl none
  where
    by : (b : Bool) → nat_le (length bytes) length_limit ≡ b → cond b (damage slot (slot_reading bytes)) (Some (Recovery.TooLarge slot (length bytes))) ≡ None → IsAccepted slot bytes
    by true is fine = record { fits = le-holds (length bytes) length_limit is; fine = fine }
    by false is fine = absurd cc

-- what a slot that isn't refused leaves to the next one
unrefused : (slot : ℕ) (bytes : List ℕ) (next : Recovery) (checkpoint : Checkpoint) → unless_refused (refusal slot bytes) next ≡ Recovered checkpoint
    → (refusal slot bytes ≡ None) × (next ≡ Recovered checkpoint)
unrefused slot bytes next checkpoint is = by (nat_le (length bytes) length_limit) (slot_reading bytes) is
  where
    by : (b : Bool) (reading : SlotReading) → unless_refused (cond b (damage slot reading) (Some (Recovery.TooLarge slot (length bytes)))) next ≡ Recovered checkpoint
        → (cond b (damage slot reading) (Some (Recovery.TooLarge slot (length bytes))) ≡ None) × (next ≡ Recovered checkpoint)
    by true Shut is = (refl, is)
    by true (Open saved) is = (refl, is)
    by true (Faulty place) is = absurd cc
    by false reading is = absurd cc

-- two slots that recover to a checkpoint
pub record Recovers (zero one : List ℕ) (checkpoint : Checkpoint) : Type 0 where
  pub zero_fine : refusal 0 zero ≡ None
  pub one_fine : refusal 1 one ≡ None
  pub state : checkpoint_of (newest (slot_reading zero) (slot_reading one)) ≡ checkpoint

pub recovers : (zero one : List ℕ) (checkpoint : Checkpoint) → recovered zero one ≡ Recovered checkpoint → Recovers zero one checkpoint
unfolding recovered
recovers zero one checkpoint is =
    let first = unrefused 0 zero (unless_refused (refusal 1 one) (Recovered (checkpoint_of (newest (slot_reading zero) (slot_reading one))))) checkpoint is in
    let second = unrefused 1 one (Recovered (checkpoint_of (newest (slot_reading zero) (slot_reading one)))) checkpoint first.1 in
    record { zero_fine = first.0; one_fine = second.0; state = same (checkpoint_of (newest (slot_reading zero) (slot_reading one))) second.1 }
  where
    same : (found : Checkpoint) → Recovered found ≡ Recovered checkpoint → found ≡ checkpoint
    same found is = cc

-- what recovery knows of them
pub found : (disk : DiskState) (checkpoint : Checkpoint) → IsDisk disk → IsSettled disk 0 → IsSettled disk 1 → recovered (disk.reads 0) (disk.reads 1) ≡ Recovered checkpoint
    → IsFound (found_keep (disk.reads 0) (disk.reads 1)) disk checkpoint
found disk checkpoint is_disk settled_zero settled_one is =
    let r = recovers (disk.reads 0) (disk.reads 1) checkpoint is in
    let zero = accepted 0 (disk.reads 0) r.zero_fine in
    let one = accepted 1 (disk.reads 1) r.one_fine in
    subst (λ c. IsFound (found_keep (disk.reads 0) (disk.reads 1)) disk c) r.state
    (found-by disk is_disk (record { settled = settled_zero; fits = zero.fits }) (record { settled = settled_one; fits = one.fits })
    (slot_reading (disk.reads 0)) (slot_reading (disk.reads 1)) refl refl zero.fine one.fine)
