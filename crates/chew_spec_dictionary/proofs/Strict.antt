-- Lists in which each element comes before all that follow.
use Rattle.std.proofs.Common.{ℕ, zero, suc, ◌+◌, ◌≤◌, ◌<◌, List, [], ◌∷◌, ◌++◌, length, map, get_or, add-one, All, arith}
use Rattle.std.specs.Bool.{⊤}
use Rattle.std.specs.List.{flat_map, range_with_len, AllAdjacentBelow}
use Rattle.std.proofs.lemmas.List.Elements.{All-append, All-map, All-weaker, All-head, All-tail}
use Rattle.chew_spec_dictionary.proofs.Hits.{all_joined, range_bounds}

-- each element comes before all that follow
abbrev pub IsStrict : {X : Type 0} → (X → X → Type 0) → List X → Type 0
IsStrict R [] = ⊤
IsStrict R (x ∷ xs) = All (R x) xs × IsStrict R xs

-- two such lists joined, where each of the first comes before each of the second
strict_append : {X : Type 0} (R : X → X → Type 0) (xs ys : List X) → IsStrict R xs → IsStrict R ys → All (λ x. All (R x) ys) xs → IsStrict R (xs ++ ys)
strict_append R [] ys sx sy a = sy
strict_append R (x ∷ xs) ys sx sy a = (All-append (R x) xs ys sx.0 (All-head (λ z. All (R z) ys) x xs a), strict_append R xs ys sx.1 sy (All-tail (λ z. All (R z) ys) x xs a))

-- parts joined, where each part is such and each of an earlier one comes before each of a later one
pub strict_joined : {X Y : Type 0} (Q : X → X → Type 0) (R : Y → Y → Type 0) (f : X → List Y) → ((x z : X) → Q x z → All (λ y. All (R y) (f z)) (f x)) → (xs : List X) → IsStrict Q xs → All (λ x. IsStrict R (f x)) xs → IsStrict R (flat_map f xs)
strict_joined Q R f apart [] s a = tt
strict_joined Q R f apart (x ∷ xs) s a = strict_append R (f x) (flat_map f xs)
    (All-head (λ z. IsStrict R (f z)) x xs a)
    (strict_joined Q R f apart xs s.1 (All-tail (λ z. IsStrict R (f z)) x xs a))
    (λ k d l. all_joined f (R (get_or (f x) k d)) xs (λ j e m. apart x (get_or xs j e) (s.0 j e m) k d l))

-- a function's values in place of the elements
pub strict_map : {X Y : Type 0} (R : Y → Y → Type 0) (g : X → Y) (xs : List X) → IsStrict (λ x z. R (g x) (g z)) xs → IsStrict R (map g xs)
strict_map R g [] s = tt
strict_map R g (x ∷ xs) s = (All-map (R (g x)) g xs s.0, strict_map R g xs s.1)

-- a range rises
pub strict_range : (a n : ℕ) → IsStrict (λ x y. x < y) (range_with_len a n)
strict_range a zero = tt
strict_range a (suc n) = (All-weaker (λ k. (a + 1 ≤ k) × (k < a + 1 + n)) (λ k. a < k) (λ k h. omega (arith, h.0)) (range_with_len (a + 1) n) (range_bounds (a + 1) n), strict_range (a + 1) n)

-- neighbours of such a list
pub strict_neighbours : {X : Type 0} (R : X → X → Type 0) (xs : List X) → IsStrict R xs → AllAdjacentBelow R xs (length xs)
strict_neighbours R [] s k d l = absurd (omega arith)
strict_neighbours R (x ∷ xs) s zero d l = s.0 0 d (omega arith)
strict_neighbours R (x ∷ xs) s (suc k) d l = let later = strict_neighbours R xs s.1 k d (omega arith) in rw add-one (rw add-one at later)
