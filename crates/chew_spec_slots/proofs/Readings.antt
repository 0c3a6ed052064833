-- What two slots recover to, by how each reads.
use Rattle.std.specs.Prelude.{◌≡◌, ◌⊎◌, ℕ, ◌+◌, ◌<◌, ◌≤◌, true, false, ◌==◌, nat_le, nat_lt, List, length, cond, Option, Some, None, refl}
use Rattle.std.proofs.Common.{arith, ap, ap₂, ⊎_elim}
use Rattle.std.proofs.lemmas.Bool.Decides.{nat_tests}
use Rattle.chew_spec_slots.specs.Fits.{IsApart, Stands}
use Rattle.chew_spec_slots.specs.Keep.{checkpoint_in}
use Rattle.chew_spec_slots.specs.Reading.{SlotReading, Shut, Open, Faulty, slot_reading}
use Rattle.chew_spec_slots.specs.Recovery.{Recovery, Recovered, checkpoint_of, damage, newest, recovered, refusal, unless_refused}
use Rattle.chew_spec_slots.specs.Slot.{Checkpoint, Saved, length_limit, no_checkpoint}

-- what readings recover to
abbrev pub by_readings : (zero one : SlotReading) → Recovery
by_readings first second = unless_refused (damage 0 first) (unless_refused (damage 1 second) (Recovered (checkpoint_of (newest first second))))

fits-test : (m n : ℕ) → m ≤ n → nat_le m n ≡ true
fits-test m n h = grind (arith, nat_tests)

below-test : (m n : ℕ) → m < n → nat_lt m n ≡ true
below-test m n h = grind (arith, nat_tests)

not-below-test : (m n : ℕ) → n ≤ m → nat_lt m n ≡ false
not-below-test m n h = grind (arith, nat_tests)

refusal-fits : (slot : ℕ) (bytes : List ℕ) → length bytes ≤ length_limit → refusal slot bytes ≡ damage slot (slot_reading bytes)
refusal-fits slot bytes fits =
    ap (λ b. cond b (damage slot (slot_reading bytes)) (Some (Recovery.TooLarge slot (length bytes)))) (fits-test (length bytes) length_limit fits)

-- slots that are not too large recover by their readings
pub recovered-fits : (first second : List ℕ) → length first ≤ length_limit → length second ≤ length_limit
    → recovered first second ≡ by_readings (slot_reading first) (slot_reading second)
unfolding recovered
recovered-fits first second fits fits′ =
    ap₂ (λ r s. unless_refused r (unless_refused s (Recovered (checkpoint_of (newest (slot_reading first) (slot_reading second))))))
    (refusal-fits 0 first fits) (refusal-fits 1 second fits′)

-- one of two things, by the slot that is the target
abbrev pub slot_of : {A : Type 0} → (target : ℕ) → (at_target at_other : A) → (slot : ℕ) → A
slot_of target at_target at_other slot = cond (slot == target) at_target at_other

newest-newer : (saved next : Saved) → saved.seq < next.seq → newest (Open saved) (Open next) ≡ Some (record { slot = 1; saved = next })
newest-newer saved next newer = ap (λ b. cond b (Some (record { slot = 1; saved = next })) (Some (record { slot = 0; saved = saved }))) (below-test saved.seq next.seq newer)

newest-older : (saved older : Saved) → older.seq ≤ saved.seq → newest (Open saved) (Open older) ≡ Some (record { slot = 0; saved = saved })
newest-older saved older old = ap (λ b. cond b (Some (record { slot = 1; saved = older })) (Some (record { slot = 0; saved = saved }))) (not-below-test saved.seq older.seq old)

-- the state of a slot that counts
abbrev pub state_of : Option ℕ → SlotReading → Checkpoint
state_of None reading = no_checkpoint
state_of (Some slot) reading = checkpoint_in reading

-- a target that doesn't count, by its number and the seq that counts
abbrev pub Misses : (target seq : ℕ) → SlotReading → Type 0
Misses target seq Shut = Unit {0}
Misses target seq (Open saved) = (saved.seq < seq) ⊎ ((target ≡ 1) × (saved.seq ≡ seq))
Misses target seq (Faulty place) = ⊥

pub old-zero : (ack : Option ℕ) (seq : ℕ) (kept list : SlotReading) → Stands ack seq kept → IsApart ack 0 seq → Misses 0 seq list → by_readings list kept ≡ Recovered (state_of ack kept)
old-zero None seq Shut Shut stands apart misses = refl
old-zero None seq Shut (Open l) stands apart misses = absurd (⊎_elim (λ h. omega (arith, h, apart.1)) (λ h. omega (arith, h.0)) misses)
old-zero None seq Shut (Faulty place) stands apart misses = absurd misses
old-zero None seq (Open saved) list stands apart misses = absurd cc
old-zero None seq (Faulty place) list stands apart misses = absurd cc
old-zero (Some slot) seq Shut list stands apart misses = absurd stands
old-zero (Some slot) seq (Faulty place) list stands apart misses = absurd stands
old-zero (Some slot) seq (Open saved) Shut stands apart misses = refl
old-zero (Some slot) seq (Open saved) (Open l) stands apart misses =
    ap (λ found. Recovered (checkpoint_of found)) (newest-newer l saved (⊎_elim (λ h. omega (arith, h, stands)) (λ h. absurd (omega (arith, h.0))) misses))
old-zero (Some slot) seq (Open saved) (Faulty place) stands apart misses = absurd misses

pub old-one : (ack : Option ℕ) (seq : ℕ) (kept list : SlotReading) → Stands ack seq kept → IsApart ack 1 seq → Misses 1 seq list → by_readings kept list ≡ Recovered (state_of ack kept)
old-one None seq kept list stands apart misses = absurd (omega (arith, apart.0))
old-one (Some slot) seq Shut list stands apart misses = absurd stands
old-one (Some slot) seq (Faulty place) list stands apart misses = absurd stands
old-one (Some slot) seq (Open saved) Shut stands apart misses = refl
old-one (Some slot) seq (Open saved) (Open l) stands apart misses =
    ap (λ found. Recovered (checkpoint_of found)) (newest-older saved l (⊎_elim (λ h. omega (arith, h, stands)) (λ h. omega (arith, h.1, stands)) misses))
old-one (Some slot) seq (Open saved) (Faulty place) stands apart misses = absurd misses

pub next-zero : (ack : Option ℕ) (seq : ℕ) (kept : SlotReading) (saved : Saved) → Stands ack seq kept → saved.seq ≡ seq + 1 → by_readings (Open saved) kept ≡ Recovered saved.checkpoint
next-zero None seq Shut saved stands next = refl
next-zero None seq (Open x) saved stands next = absurd cc
next-zero None seq (Faulty place) saved stands next = absurd cc
next-zero (Some slot) seq Shut saved stands next = absurd stands
next-zero (Some slot) seq (Faulty place) saved stands next = absurd stands
next-zero (Some slot) seq (Open x) saved stands next = ap (λ found. Recovered (checkpoint_of found)) (newest-older saved x (omega (arith, stands)))

pub next-one : (ack : Option ℕ) (seq : ℕ) (kept : SlotReading) (saved : Saved) → Stands ack seq kept → saved.seq ≡ seq + 1 → by_readings kept (Open saved) ≡ Recovered saved.checkpoint
next-one None seq Shut saved stands next = refl
next-one None seq (Open x) saved stands next = absurd cc
next-one None seq (Faulty place) saved stands next = absurd cc
next-one (Some slot) seq Shut saved stands next = absurd stands
next-one (Some slot) seq (Faulty place) saved stands next = absurd stands
next-one (Some slot) seq (Open x) saved stands next = ap (λ found. Recovered (checkpoint_of found)) (newest-newer x saved (omega (arith, stands)))
