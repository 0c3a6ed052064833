-- How many pieces have each length says what any sum over the lengths is.
use Rattle.std.proofs.Common.{◌≡◌, ℕ, zero, suc, ◌+◌, ◌-◌, ◌*◌, ◌<◌, ◌≤◌, List, [], ◌∷◌, length, sum, All, get_or, set, drop, sum_by, sym, refl, ap, ap₂, ◌∙◌, arith, length-set}
use Rattle.std.proofs.lemmas.List.Elements.{All-head, All-tail}
use Rattle.std.proofs.lemmas.List.Sums.{sum_by-cons}
use Rattle.chew_phrasing.specs.Counts.{counts_of, no_counts, sum_over}
use Rattle.chew_spec_phrasing.proofs.Sorted.{IsAlike}

-- a length of a piece
abbrev pub IsLength : ℕ → Type 0
IsLength len = (1 ≤ len) × (len ≤ 11)

-- the sum over the counts from a place on, without the first
pub sum_over-drop : (f : ℕ → ℕ) (first place : ℕ) (counts : List ℕ) → place < length counts → sum_over f first (drop place counts) ≡ get_or counts place 0 * f first + sum_over f (suc first) (drop (suc place) counts)
sum_over-drop f first place [] h = absurd (omega arith)
sum_over-drop f first zero (count ∷ counts) h = refl
sum_over-drop f first (suc place) (count ∷ counts) h = sum_over-drop f first place counts (omega arith)

-- one more counts once more
sum_over-set : (f : ℕ → ℕ) (first place : ℕ) (counts : List ℕ) → place < length counts → sum_over f first (set counts place (get_or counts place 0 + 1)) ≡ f (first + place) + sum_over f first counts
sum_over-set f first place [] h = absurd (omega arith)
sum_over-set f first zero (count ∷ counts) h =
    let e : f (first + 0) ≡ f first = ap f (omega arith) in
    let d : (count + 1) * f first ≡ count * f first + f first = omega arith in
    omega arith
sum_over-set f first (suc place) (count ∷ counts) h =
    let rest = sum_over-set f (suc first) place counts (omega arith) in
    let e : f (suc first + place) ≡ f (first + suc place) = ap f (omega arith) in
    omega arith

pub length-counts_of : (lens : List ℕ) → length (counts_of lens) ≡ 11
length-counts_of [] = refl
length-counts_of (len ∷ lens) = length-set (counts_of lens) (len - 1) (get_or (counts_of lens) (len - 1) 0 + 1) ∙ length-counts_of lens

sum_over-none : (f : ℕ → ℕ) → sum_over f 1 no_counts ≡ 0
sum_over-none f = omega arith

-- a sum over lengths is the sum over their counts
pub sum_over-counts_of : (f : ℕ → ℕ) (lens : List ℕ) → All IsLength lens → sum_over f 1 (counts_of lens) ≡ sum_by f lens
sum_over-counts_of f [] h = sum_over-none f
sum_over-counts_of f (len ∷ lens) h =
    let first = All-head IsLength len lens h in
    let one : 1 ≤ len = first.0 in
    let few : len ≤ 11 = first.1 in
    let rest = sum_over-counts_of f lens (All-tail IsLength len lens h) in
    let whole = length-counts_of lens in
    let more = sum_over-set f 1 (len - 1) (counts_of lens) (omega arith) in
    let e : f (1 + (len - 1)) ≡ f len = ap f (omega arith) in
    omega (arith, sum_by-cons f len lens)

-- lengths with the same counts are the same lengths in some order
pub IsAlike-from_counts : (xs ys : List ℕ) → All IsLength xs → All IsLength ys → counts_of xs ≡ counts_of ys → IsAlike xs ys
IsAlike-from_counts xs ys h i e = record {
  sums = λ f. sym (sum_over-counts_of f xs h) ∙ (ap (sum_over f 1) e ∙ sum_over-counts_of f ys i);
}

sum_over-ones : (first : ℕ) (counts : List ℕ) → sum_over (λ len. 1) first counts ≡ sum counts
sum_over-ones first [] = refl
sum_over-ones first (count ∷ counts) =
    let rest = sum_over-ones (suc first) counts in omega (arith, sum_by-cons (λ x. x) count counts)

-- the sum of the counts is the number of lengths
pub sum-counts_of : (lens : List ℕ) → All IsLength lens → sum (counts_of lens) ≡ sum_by (λ len. 1) lens
sum-counts_of lens h = sym (sum_over-ones 1 (counts_of lens)) ∙ sum_over-counts_of (λ len. 1) lens h

-- one length more of a sum over the counts
pub sum_over_more : (f : ℕ → ℕ) (counts : List ℕ) (place total count value whole : ℕ) → place < length counts → count ≡ get_or counts place 0 → value ≡ f (suc place) → total + sum_over f (suc place) (drop place counts) ≡ whole → (total + count * value) + sum_over f (suc (place + 1)) (drop (place + 1) counts) ≡ whole
sum_over_more f counts place total count value whole h is at e =
    let next = sum_over-drop f (suc place) place counts h in
    let same : count * value ≡ get_or counts place 0 * f (suc place) = ap₂ (λ a b. a * b) is at in
    let one : sum_over f (suc (place + 1)) (drop (place + 1) counts) ≡ sum_over f (suc (suc place)) (drop (suc place) counts) = (let e : place + 1 ≡ suc place = omega arith in ap (λ k. sum_over f (suc k) (drop k counts)) e) in
    omega arith

-- a product of small numbers
pub product_within : (a b m n : ℕ) → a ≤ m → b ≤ n → a * b ≤ m * n
product_within a b m n h i = grind arith
