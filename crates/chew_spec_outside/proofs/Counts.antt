-- How a count of faults moves over two calls.
use Rattle.std.specs.Prelude.{ℕ, ◌≤◌, Bool, true, false, ◌||◌, refl}
use Rattle.std.proofs.Common.{arith, ◌∙◌}
use Rattle.chew_spec_outside.specs.Faults.{HasCause, Rose}

-- a count that rose later rose from the start
pub rose-before : (first middle last : ℕ) → first ≤ middle → Rose middle last → Rose first last
rose-before first middle last low rose = omega arith

-- a count that rose stays risen
pub rose-after : (first middle last : ℕ) → Rose first middle → middle ≤ last → Rose first last
rose-after first middle last rose high = omega arith

-- the faults of two calls together
pub causes-chain : {first middle last : ℕ} {one other : Bool} → HasCause first middle one → HasCause middle last other → HasCause first last (one || other)
causes-chain {first = first} {middle = middle} {last = last} {one = true} p q = record {
  never_falls = omega (arith, p.never_falls, q.never_falls);
  rose = λ h. rose-after first middle last (p.rose h) q.never_falls;
  same = λ h. cc;
}
causes-chain {first = first} {middle = middle} {last = last} {one = false} p q = record {
  never_falls = omega (arith, p.never_falls, q.never_falls);
  rose = λ h. rose-before first middle last p.never_falls (q.rose h);
  same = λ h. q.same h ∙ p.same refl;
}
