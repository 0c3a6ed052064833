-- A sorted list with the same elements is the list in order, where elements that tie are one.
use Rattle.std.proofs.Common.{◌≡◌, ℕ, ◌+◌, Bool, true, false, cond, List, [], ◌∷◌, ◌++◌, map, filter, All, IsPermutation, IsSorted, Ordering, Equal, sum_by, sym, refl, ap, ap₂, ◌∙◌, arith}
use Rattle.std.specs.Cmp.{IsTotalOrder}
use Rattle.std.proofs.lemmas.List.Sorted.{All-permutation, sum_by-IsPermutation}
use Rattle.std.proofs.lemmas.List.Sums.{sum_by-append, sum_by-cons}
use Rattle.chew_spec_dictionary.specs.Order.{in_order}
use Rattle.chew_spec_dictionary.proofs.Order.{order_permutes, order_rises, rises_from, rising_alike}

-- the lists have the same elements, each as often: every sum over them is the same
pub record IsAlike {X : Type 0} (xs ys : List X) : Type 0 where
  pub sums : (f : X → ℕ) → sum_by f xs ≡ sum_by f ys

pub IsAlike-from_IsPermutation : {X : Type 0} (xs ys : List X) → IsPermutation xs ys → IsAlike xs ys
IsAlike-from_IsPermutation xs ys h = record { sums = λ f. sym (sum_by-IsPermutation f xs ys h) }

pub IsAlike-trans : {X : Type 0} (xs ys zs : List X) → IsAlike xs ys → IsAlike ys zs → IsAlike xs zs
IsAlike-trans xs ys zs h i = record { sums = λ f. h.sums f ∙ i.sums f }

pub IsAlike-append : {X : Type 0} (xs ys us vs : List X) → IsAlike xs ys → IsAlike us vs → IsAlike (xs ++ us) (ys ++ vs)
IsAlike-append xs ys us vs h i = record {
  sums = λ f. sum_by-append f xs us ∙ (ap₂ (λ a b. a + b) (h.sums f) (i.sums f) ∙ sym (sum_by-append f ys vs));
}

sum_by_of_map : {X Y : Type 0} (f : Y → ℕ) (g : X → Y) (xs : List X) → sum_by f (map g xs) ≡ sum_by (λ x. f (g x)) xs
sum_by_of_map f g [] = refl
sum_by_of_map f g (x ∷ xs) =
    sum_by-cons f (g x) (map g xs) ∙ (ap (λ n. f (g x) + n) (sum_by_of_map f g xs) ∙ sym (sum_by-cons (λ y. f (g y)) x xs))

pub IsAlike-map : {X Y : Type 0} (g : X → Y) (xs ys : List X) → IsAlike xs ys → IsAlike (map g xs) (map g ys)
IsAlike-map g xs ys h = record {
  sums = λ f. sum_by_of_map f g xs ∙ (h.sums (λ x. f (g x)) ∙ sym (sum_by_of_map f g ys));
}

filter_sum_step : {X : Type 0} (f : X → ℕ) (x : X) (rest : List X) (b : Bool) → sum_by f (cond b (x ∷ rest) rest) ≡ cond b (f x) 0 + sum_by f rest
filter_sum_step f x rest true = sum_by-cons f x rest
filter_sum_step f x rest false = omega arith

sum_by_of_filter : {X : Type 0} (f : X → ℕ) (p : X → Bool) (xs : List X) → sum_by f (filter p xs) ≡ sum_by (λ x. cond (p x) (f x) 0) xs
sum_by_of_filter f p [] = refl
sum_by_of_filter f p (x ∷ xs) =
    filter_sum_step f x (filter p xs) (p x)
    ∙ (ap (λ n. cond (p x) (f x) 0 + n) (sum_by_of_filter f p xs) ∙ sym (sum_by-cons (λ y. cond (p y) (f y) 0) x xs))

pub IsAlike-filter : {X : Type 0} (p : X → Bool) (xs ys : List X) → IsAlike xs ys → IsAlike (filter p xs) (filter p ys)
IsAlike-filter p xs ys h = record {
  sums = λ f. sum_by_of_filter f p xs ∙ (h.sums (λ x. cond (p x) (f x) 0) ∙ sym (sum_by_of_filter f p ys));
}

-- a sorted list with the elements of another is that one in order
pub in_order_from_sorted : {X : Type 0} (cmp : X → X → Ordering) → IsTotalOrder cmp → (P : X → Type 0) → ((x y : X) → P x → P y → cmp x y ≡ Equal → x ≡ y) → (xs ys : List X) → All P xs → All P ys → IsAlike xs ys → IsSorted cmp ys → ys ≡ in_order cmp xs
in_order_from_sorted cmp o P ties xs ys p q alike sorted =
    let moved = order_permutes cmp xs in
    sym (rising_alike cmp o P ties (in_order cmp xs) ys (order_rises cmp o xs) (rises_from cmp o ys sorted)
    (All-permutation P xs (in_order cmp xs) moved p) q (λ f. sum_by-IsPermutation f xs (in_order cmp xs) moved ∙ alike.sums f))
