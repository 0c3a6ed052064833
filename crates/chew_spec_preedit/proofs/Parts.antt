-- What all elements of a list pass, the elements of its parts pass.
use Rattle.std.proofs.Common.{◌≡◌, ℕ, zero, suc, ◌<◌, ◌≤◌, ◌-◌, Bool, true, false, List, [], ◌∷◌, length, take, drop, filter, cond, refl, arith, ap, ◌∙◌}
use Rattle.std.specs.List.{list_all}
use Rattle.std.proofs.lemmas.Bool.{and_from, and_parts}
use Rattle.std.proofs.lemmas.Bool.{cond-false}

pub list_all-take : {X : Type 0} (p : X → Bool) (n : ℕ) (xs : List X) → list_all p xs ≡ true → list_all p (take n xs) ≡ true
list_all-take p zero xs e = refl
list_all-take p (suc n) [] e = refl
list_all-take p (suc n) (x ∷ xs) e =
    let parts = and_parts (p x) (list_all p xs) e in
    and_from (p x) (list_all p (take n xs)) parts.0 (list_all-take p n xs parts.1)

pub list_all-drop : {X : Type 0} (p : X → Bool) (n : ℕ) (xs : List X) → list_all p xs ≡ true → list_all p (drop n xs) ≡ true
list_all-drop p zero xs e = e
list_all-drop p (suc n) [] e = e
list_all-drop p (suc n) (x ∷ xs) e = list_all-drop p n xs ((and_parts (p x) (list_all p xs) e).1)

-- nothing is kept where the test fails at each
pub filter-none : {X : Type 0} (q keep : X → Bool) → ((x : X) → q x ≡ true → keep x ≡ false) → (xs : List X) → list_all q xs ≡ true → filter keep xs ≡ []
filter-none q keep h [] e = refl
filter-none q keep h (x ∷ xs) e =
    let parts = and_parts (q x) (list_all q xs) e in
    cond-false (keep x) (x ∷ filter keep xs) (filter keep xs) (h x parts.0) ∙ filter-none q keep h xs parts.1

-- and all where it passes at each
pub filter-all : {X : Type 0} (q keep : X → Bool) → ((x : X) → q x ≡ true → keep x ≡ true) → (xs : List X) → list_all q xs ≡ true → filter keep xs ≡ xs
filter-all q keep h [] e = refl
filter-all q keep h (x ∷ xs) e =
    let parts = and_parts (q x) (list_all q xs) e in
    ap (λ b. cond b (x ∷ filter keep xs) (filter keep xs)) (h x parts.0) ∙ ap (λ ys. x ∷ ys) (filter-all q keep h xs parts.1)
