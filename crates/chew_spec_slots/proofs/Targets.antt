-- How the lists read that a crash may leave of a target.
use Rattle.std.specs.Prelude.{◌≡◌, ◌≢◌, ◌⊎◌, ℕ, Bool, true, false, ◌&&◌, ◌==◌, nat_le, List, [], ◌∷◌, length, drop, slice_index, cond, refl}
use Rattle.std.proofs.Common.{arith, eqb, inl, inr, ap, ap₂, ⊎_elim}
use Rattle.std.proofs.lemmas.Bool.{cases_eq}
use Rattle.std.proofs.lemmas.Bool.Decides.{nat_tests}
use Rattle.chew_spec_slots.specs.Keep.{opened}
use Rattle.chew_spec_slots.specs.Reading.{Shut, as_open, saved_in, slot_reading}
use Rattle.chew_spec_slots.specs.Slot.{open_gate}

and-false : (a b : Bool) → b ≡ false → (a && b) ≡ false
and-false true b is = is
and-false false b is = refl

apart-test : (m n : ℕ) → m ≢ n → eqb m n ≡ false
apart-test m n apart = grind (arith, nat_tests)

-- a gate that isn't open makes a shut slot
pub shut-gate : (list : List ℕ) → slice_index list 0 ≢ open_gate → slot_reading list ≡ Shut
shut-gate list apart =
    ap (λ b. cond b (as_open (saved_in list)) Shut)
    (and-false (nat_le 33 (length list)) (slice_index list 0 == open_gate) (apart-test (slice_index list 0) open_gate apart))

-- any gate before the same bytes is shut, or the open one
pub any-gate : (reads list : List ℕ) → drop 1 list ≡ drop 1 reads → (slot_reading list ≡ Shut) ⊎ (slot_reading list ≡ slot_reading (opened reads))
any-gate reads [] same = inl refl
any-gate reads (gate ∷ behind) same =
    ⊎_elim
    (λ same_gate. inr (ap₂ (λ g bs. slot_reading (g ∷ bs)) same_gate same))
    (λ apart. inl (shut-gate (gate ∷ behind) apart))
    (cases_eq gate open_gate)
