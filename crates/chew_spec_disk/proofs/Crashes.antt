-- What a crash leaves, event by event.
use Rattle.std.specs.Prelude.{◌⊎◌, ℕ, ◌+◌, ◌<◌, ◌≤◌, List}
use Rattle.std.proofs.Common.{arith, inl, inr}
use Rattle.chew_spec_disk.specs.Write.{Torn}

-- a shorter range tears no more
pub torn-less : (at n more : ℕ) (old new : List ℕ) → n ≤ more → Torn at n old new → Torn at more old new
torn-less at n more old new fits torn = record {
  no_shorter = torn.no_shorter;
  no_longer = omega (arith, torn.no_longer);
  same = λ k low apart. torn.same k low (widen k apart);
}
  where
    widen : (k : ℕ) → (k < at) ⊎ (at + more ≤ k) → (k < at) ⊎ (at + n ≤ k)
    widen k (inl before) = inl before
    widen k (inr behind) = inr (omega arith)
