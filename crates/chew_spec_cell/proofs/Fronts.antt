-- Two fronts of one list.
use Rattle.std.proofs.Common.{◌≡◌, ◌≤◌, List, [], ◌∷◌, ◌++◌, length, drop, refl, ap, sym, arith}

module _ {X : Type 0} where
  first_or : X → List X → X
  first_or other [] = other
  first_or other (x ∷ xs) = x

  -- the shorter of two fronts of one list is a front of the longer, and what lies between them comes first in the rest
  pub between : (front rest longer more : List X) → front ++ rest ≡ longer ++ more → length front ≤ length longer
      → (middle : List X) × (longer ≡ front ++ middle) × (rest ≡ middle ++ more)
  unfolding first_or
  between [] rest longer more same short = (longer, refl, same)
  between (x ∷ front) rest [] more same short = absurd (omega arith)
  between (x ∷ front) rest (y ∷ longer) more same short =
      let b = between front rest longer more (ap (λ (l : List X). drop 1 l) same) (omega arith) in
      let first : x ≡ y = ap (first_or x) same in
      (b.0, (λ i. sym first i ∷ b.1 i), b.2)

  -- two lists with nothing in them together have nothing in them
  pub nothing_joined : (xs ys : List X) → xs ++ ys ≡ [] → (xs ≡ []) × (ys ≡ [])
  nothing_joined [] ys e = (refl, e)
  nothing_joined (x ∷ xs) ys e = absurd (let l = ap (λ (l : List X). length l) e in omega arith)

  pub nothing_long : (xs : List X) → length xs ≤ 0 → xs ≡ []
  nothing_long [] l = refl
  nothing_long (x ∷ xs) l = absurd (omega arith)
