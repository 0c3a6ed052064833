-- Lists of lengths from 1 that add up to a number.
use Rattle.std.proofs.Common.{◌≡◌, ℕ, zero, suc, ◌+◌, ◌≤◌, List, [], ◌∷◌, sum, Contains, ⊎_elim, refl, subst, arith}
use Rattle.std.proofs.lemmas.List.Elements.{All-cons, All-nil, All-head, All-tail}
use Rattle.std.proofs.lemmas.List.Sums.{sum_by-cons}
use Rattle.chew_spec_phrasing.proofs.Membership.{Contains-head, Contains-tail, Contains-cases, Contains-single, Contains-flat_map, Contains-from_flat_map}
use Rattle.chew_spec_phrasing.specs.Segmentation.{AddsUp, extended, lengths_of}

-- the sum of a list is its first element and the sum of the rest
pub sum-cons : (len : ℕ) (lens : List ℕ) → sum (len ∷ lens) ≡ len + sum lens
sum-cons len lens = sum_by-cons (λ x. x) len lens

-- no lengths add up to 0, and only none
pub AddsUp-none : AddsUp 0 []
AddsUp-none = record { whole = refl; each = All-nil (λ len. 1 ≤ len) }

-- a length from 1 and lengths that add up to the rest
pub AddsUp-cons : (len n : ℕ) (lens : List ℕ) → 1 ≤ len → AddsUp n lens → AddsUp (len + n) (len ∷ lens)
AddsUp-cons len n lens l h = record {
  whole = omega (arith, sum-cons len lens, h.whole);
  each = All-cons (λ x. 1 ≤ x) len lens l h.each;
}

-- the rest of such lengths
pub AddsUp-rest : (len n : ℕ) (lens : List ℕ) → AddsUp n (len ∷ lens) → (1 ≤ len) × (len + sum lens ≡ n) × AddsUp (sum lens) lens
AddsUp-rest len n lens h = (
  All-head (λ x. 1 ≤ x) len lens h.each,
  omega (arith, sum-cons len lens, h.whole),
  record { whole = refl; each = All-tail (λ x. 1 ≤ x) len lens h.each },
)

AddsUp-at : (m n : ℕ) (lens : List ℕ) → m ≡ n → AddsUp m lens → AddsUp n lens
AddsUp-at m n lens e h = subst (λ k. AddsUp k lens) e h

AddsUp-extended : (n : ℕ) (lens more : List ℕ) → AddsUp n lens → Contains (extended lens) more → AddsUp (suc n) more
AddsUp-extended n [] more h i =
    subst (AddsUp (suc n)) (Contains-single (1 ∷ []) more i)
    (AddsUp-at (1 + n) (suc n) (1 ∷ []) (omega arith) (AddsUp-cons 1 n [] (omega arith) h))
AddsUp-extended n (len ∷ lens) more h i =
    ⊎_elim
    (λ e. subst (AddsUp (suc n)) e (AddsUp-at (1 + n) (suc n) (1 ∷ (len ∷ lens)) (omega arith) (AddsUp-cons 1 n (len ∷ lens) (omega arith) h)))
    (λ later. let rest = AddsUp-rest len n lens h in
    subst (AddsUp (suc n)) (Contains-single (suc len ∷ lens) more later)
    (AddsUp-at (suc len + sum lens) (suc n) (suc len ∷ lens) (omega arith) (AddsUp-cons (suc len) (sum lens) lens (omega arith) rest.2)))
    (Contains-cases (1 ∷ (len ∷ lens)) ((suc len ∷ lens) ∷ []) more i)

-- each list of lengths of n adds up to n and has no 0
pub AddsUp-from_lengths_of : (n : ℕ) (lens : List ℕ) → Contains (lengths_of n) lens → AddsUp n lens
AddsUp-from_lengths_of zero lens i = subst (AddsUp 0) (Contains-single [] lens i) AddsUp-none
AddsUp-from_lengths_of (suc n) lens i =
    let from = Contains-from_flat_map extended (lengths_of n) lens i in
    AddsUp-extended n from.0 lens (AddsUp-from_lengths_of n from.0 from.1) from.2

single_first : (lens : List ℕ) → Contains (extended lens) (1 ∷ lens)
single_first [] = Contains-head (1 ∷ []) []
single_first (len ∷ lens) = Contains-head (1 ∷ (len ∷ lens)) ((suc len ∷ lens) ∷ [])

longer_first : (len : ℕ) (lens : List ℕ) → Contains (extended (len ∷ lens)) (suc len ∷ lens)
longer_first len lens =
    Contains-tail (1 ∷ (len ∷ lens)) ((suc len ∷ lens) ∷ []) (suc len ∷ lens) (Contains-head (suc len ∷ lens) [])

-- each list of lengths from 1 that adds up to n is one of the lengths of n
pub Contains-lengths_of : (n : ℕ) (lens : List ℕ) → AddsUp n lens → Contains (lengths_of n) lens
Contains-lengths_of zero [] h = Contains-head [] []
Contains-lengths_of zero (len ∷ lens) h = absurd (let rest = AddsUp-rest len 0 lens h in omega arith)
Contains-lengths_of (suc n) [] h = absurd (omega (arith, h.whole))
Contains-lengths_of (suc n) (zero ∷ lens) h = absurd (let rest = AddsUp-rest 0 (suc n) lens h in omega arith)
Contains-lengths_of (suc n) (suc zero ∷ lens) h =
    let rest = AddsUp-rest 1 (suc n) lens h in
    Contains-flat_map extended (lengths_of n) lens (1 ∷ lens) (Contains-lengths_of n lens (AddsUp-at (sum lens) n lens (omega arith) rest.2)) (single_first lens)
Contains-lengths_of (suc n) (suc (suc len) ∷ lens) h =
    let rest = AddsUp-rest (suc (suc len)) (suc n) lens h in
    Contains-flat_map extended (lengths_of n) (suc len ∷ lens) (suc (suc len) ∷ lens)
    (Contains-lengths_of n (suc len ∷ lens) (AddsUp-at (suc len + sum lens) n (suc len ∷ lens) (omega arith) (AddsUp-cons (suc len) (sum lens) lens (omega arith) rest.2)))
    (longer_first (suc len) lens)
