-- What is known of elements stays known of them in order, and a list may be put in order part by part.
use Rattle.std.proofs.Common.{◌≡◌, suc, Bool, true, false, cond, List, [], ◌∷◌, ◌++◌, All, AllPairs, Contains, IsPermutation, Ordering, is_lt, sym, refl, ap, arith}
use Rattle.std.specs.List.{list_any}
use Rattle.std.proofs.lemmas.List.Elements.{All-append, All-cons, All-head, All-tail}
use Rattle.std.proofs.lemmas.List.Kept.{AllPairs-cons}
use Rattle.std.proofs.lemmas.List.Sorted.{All-permutation, Contains-permutation, IsPermutation-sym, list_any-IsPermutation}
use Rattle.chew_spec_dictionary.specs.Order.{in_order, put}
use Rattle.chew_spec_dictionary.proofs.Order.{order_permutes, put_permutes}

pub Contains-in_order : {X : Type 0} (cmp : X → X → Ordering) (xs : List X) (x : X) → Contains xs x → Contains (in_order cmp xs) x
Contains-in_order cmp xs x h = Contains-permutation xs (in_order cmp xs) x (order_permutes cmp xs) h

pub Contains-from_in_order : {X : Type 0} (cmp : X → X → Ordering) (xs : List X) (x : X) → Contains (in_order cmp xs) x → Contains xs x
Contains-from_in_order cmp xs x h =
    Contains-permutation (in_order cmp xs) xs x (IsPermutation-sym xs (in_order cmp xs) (order_permutes cmp xs)) h

-- a test finds an element of it alike
pub list_any-in_order : {X : Type 0} (cmp : X → X → Ordering) (p : X → Bool) (xs : List X) → list_any p (in_order cmp xs) ≡ list_any p xs
list_any-in_order cmp p xs = sym (list_any-IsPermutation p xs (in_order cmp xs) (order_permutes cmp xs))

-- what holds of the first and each later one, and of each pair of the others
pub AllPairs-head : {X : Type 0} (R : X → X → Type 0) (x : X) (xs : List X) → AllPairs R (x ∷ xs) → All (R x) xs
AllPairs-head R x xs h = λ k d l. h 0 (suc k) d (omega arith) (omega arith)

pub AllPairs-tail : {X : Type 0} (R : X → X → Type 0) (x : X) (xs : List X) → AllPairs R (x ∷ xs) → AllPairs R xs
AllPairs-tail R x xs h = λ i j d l m. h (suc i) (suc j) d (omega arith) (omega arith)

pub AllPairs-nil : {X : Type 0} (R : X → X → Type 0) → AllPairs R []
AllPairs-nil R = λ i j d l m. absurd (omega arith)

-- of two lists joined
pub AllPairs-append : {X : Type 0} (R : X → X → Type 0) (xs ys : List X) → AllPairs R xs → AllPairs R ys → All (λ x. All (R x) ys) xs → AllPairs R (xs ++ ys)
AllPairs-append R [] ys h i both = i
AllPairs-append R (x ∷ xs) ys h i both =
    AllPairs-cons R x (xs ++ ys)
    (All-append (R x) xs ys (AllPairs-head R x xs h) (All-head (λ z. All (R z) ys) x xs both))
    (AllPairs-append R xs ys (AllPairs-tail R x xs h) i (All-tail (λ z. All (R z) ys) x xs both))

put_pairs : {X : Type 0} (R : X → X → Type 0) (x y : X) (ys later : List X) (b : Bool) → AllPairs R (y ∷ ys) → (b ≡ true → R y x) → (b ≡ false → All (R x) (y ∷ ys)) → IsPermutation (x ∷ ys) later → AllPairs R later → AllPairs R (cond b (y ∷ later) (x ∷ (y ∷ ys)))
put_pairs R x y ys later true h before behind moved rest =
    AllPairs-cons R y later (All-permutation (R y) (x ∷ ys) later moved (All-cons (R y) x ys (before refl) (AllPairs-head R y ys h))) rest
put_pairs R x y ys later false h before behind moved rest = AllPairs-cons R x (y ∷ ys) (behind refl) h

-- elements that stay apart in either order stay so
AllPairs-put_apart : {X : Type 0} (cmp : X → X → Ordering) (R : X → X → Type 0) → ((x y : X) → R x y → R y x) → (x : X) (xs : List X) → All (R x) xs → AllPairs R xs → AllPairs R (put cmp x xs)
AllPairs-put_apart cmp R back x [] each h = AllPairs-cons R x [] each h
AllPairs-put_apart cmp R back x (y ∷ ys) each h =
    put_pairs R x y ys (put cmp x ys) (is_lt (cmp y x)) h
    (λ e. back x y (All-head (R x) y ys each)) (λ e. each) (put_permutes cmp x ys)
    (AllPairs-put_apart cmp R back x ys (All-tail (R x) y ys each) (AllPairs-tail R y ys h))

pub AllPairs-in_order : {X : Type 0} (cmp : X → X → Ordering) (R : X → X → Type 0) → ((x y : X) → R x y → R y x) → (xs : List X) → AllPairs R xs → AllPairs R (in_order cmp xs)
AllPairs-in_order cmp R back [] h = h
AllPairs-in_order cmp R back (x ∷ xs) h =
    AllPairs-put_apart cmp R back x (in_order cmp xs)
    (All-permutation (R x) xs (in_order cmp xs) (order_permutes cmp xs) (AllPairs-head R x xs h))
    (AllPairs-in_order cmp R back xs (AllPairs-tail R x xs h))

put_before : {X : Type 0} (cmp : X → X → Ordering) (x y : X) (ys : List X) → is_lt (cmp y x) ≡ false → put cmp x (y ∷ ys) ≡ x ∷ (y ∷ ys)
put_before cmp x y ys e = ap (λ (b : Bool). cond b (y ∷ put cmp x ys) (x ∷ (y ∷ ys))) e

put_behind : {X : Type 0} (cmp : X → X → Ordering) (x y : X) (ys : List X) → is_lt (cmp y x) ≡ true → put cmp x (y ∷ ys) ≡ y ∷ put cmp x ys
put_behind cmp x y ys e = ap (λ (b : Bool). cond b (y ∷ put cmp x ys) (x ∷ (y ∷ ys))) e
