-- Lists of which some elements are kept, and those behind moved.
use Rattle.std.proofs.Common.{◌≡◌, ℕ, Bool, true, false, cond, ◌&&◌, List, [], ◌∷◌, ◌++◌, map, filter, Contains, ◌⊎◌, inl, inr, refl, ap, sym, ◌∙◌}
use Rattle.std.specs.List.{list_all}
use Rattle.std.proofs.lemmas.Bool.{and_from, and_parts, cond_both}
use Rattle.std.proofs.lemmas.List.Folds.{list_all-append}
use Rattle.chew_spec_phrasing.proofs.Membership.{Contains-cases, Contains-nil}
use Rattle.chew_spec_preedit.specs.InTurn.{is_in_turn}

-- what follows from a test holds of all that pass it
pub list_all-weaker : {X : Type 0} (q r : X → Bool) → ((x : X) → q x ≡ true → r x ≡ true) → (xs : List X) → list_all q xs ≡ true → list_all r xs ≡ true
list_all-weaker q r h [] e = refl
list_all-weaker q r h (x ∷ xs) e =
    let parts = and_parts (q x) (list_all q xs) e in
    and_from (r x) (list_all r xs) (h x parts.0) (list_all-weaker q r h xs parts.1)

-- so of those that are kept
pub list_all-filter : {X : Type 0} (q keep r : X → Bool) → ((x : X) → q x ≡ true → keep x ≡ true → r x ≡ true) → (xs : List X) → list_all q xs ≡ true → list_all r (filter keep xs) ≡ true
list_all-filter q keep r h [] e = refl
list_all-filter q keep r h (x ∷ xs) e =
    let parts = and_parts (q x) (list_all q xs) e in
    let rest = list_all-filter q keep r h xs parts.1 in
    cond_both (keep x) (x ∷ filter keep xs) (filter keep xs) (λ ys. list_all r ys ≡ true)
    (λ k. and_from (r x) (list_all r (filter keep xs)) (h x parts.0 k) rest)
    (λ k. rest)

-- and of what they are moved to
pub list_all-moved : {X Y : Type 0} (q keep : X → Bool) (f : X → Y) (r : Y → Bool) → ((x : X) → q x ≡ true → keep x ≡ true → r (f x) ≡ true) → (xs : List X) → list_all q xs ≡ true → list_all r (map f (filter keep xs)) ≡ true
list_all-moved q keep f r h [] e = refl
list_all-moved q keep f r h (x ∷ xs) e =
    let parts = and_parts (q x) (list_all q xs) e in
    let rest = list_all-moved q keep f r h xs parts.1 in
    cond_both (keep x) (x ∷ filter keep xs) (filter keep xs) (λ ys. list_all r (map f ys) ≡ true)
    (λ k. and_from (r (f x)) (list_all r (map f (filter keep xs))) (h x parts.0 k) rest)
    (λ k. rest)

pub list_all-true : {X : Type 0} (xs : List X) → list_all (λ x. true) xs ≡ true
list_all-true [] = refl
list_all-true (x ∷ xs) = list_all-true xs

pub list_all-join : {X : Type 0} (r : X → Bool) (xs ys : List X) → list_all r xs ≡ true → list_all r ys ≡ true → list_all r (xs ++ ys) ≡ true
list_all-join r xs ys e f = list_all-append r xs ys ∙ and_from (list_all r xs) (list_all r ys) e f

-- what is kept before a place, and moved behind it
pub list_all-edited : {X : Type 0} (q before behind : X → Bool) (f : X → X) (r : X → Bool)
    → ((x : X) → q x ≡ true → before x ≡ true → r x ≡ true) → ((x : X) → q x ≡ true → behind x ≡ true → r (f x) ≡ true)
    → (xs : List X) → list_all q xs ≡ true → list_all r (filter before xs ++ map f (filter behind xs)) ≡ true
list_all-edited q before behind f r h g xs e =
    list_all-join r (filter before xs) (map f (filter behind xs)) (list_all-filter q before r h xs e) (list_all-moved q behind f r g xs e)

-- with one more between them
pub list_all-around : {X : Type 0} (q before behind r : X → Bool) (y : X)
    → ((x : X) → q x ≡ true → before x ≡ true → r x ≡ true) → ((x : X) → q x ≡ true → behind x ≡ true → r x ≡ true) → r y ≡ true
    → (xs : List X) → list_all q xs ≡ true → list_all r (filter before xs ++ (y ∷ filter behind xs)) ≡ true
list_all-around q before behind r y h g own xs e =
    list_all-join r (filter before xs) (y ∷ filter behind xs) (list_all-filter q before r h xs e)
    (and_from (r y) (list_all r (filter behind xs)) own (list_all-filter q behind r g xs e))

-- the same of lists in turn
pub is_in_turn-filter : {X : Type 0} (R : X → X → Bool) (keep : X → Bool) (xs : List X) → is_in_turn R xs ≡ true → is_in_turn R (filter keep xs) ≡ true
is_in_turn-filter R keep [] e = refl
is_in_turn-filter R keep (x ∷ xs) e =
    let parts = and_parts (list_all (R x) xs) (is_in_turn R xs) e in
    let rest = is_in_turn-filter R keep xs parts.1 in
    cond_both (keep x) (x ∷ filter keep xs) (filter keep xs) (λ ys. is_in_turn R ys ≡ true)
    (λ k. and_from (list_all (R x) (filter keep xs)) (is_in_turn R (filter keep xs)) (list_all-filter (R x) keep (R x) (λ y h _. h) xs parts.0) rest)
    (λ k. rest)

pub is_in_turn-moved : {X : Type 0} (R : X → X → Bool) (keep : X → Bool) (f : X → X)
    → ((x y : X) → keep x ≡ true → keep y ≡ true → R x y ≡ true → R (f x) (f y) ≡ true)
    → (xs : List X) → is_in_turn R xs ≡ true → is_in_turn R (map f (filter keep xs)) ≡ true
is_in_turn-moved R keep f h [] e = refl
is_in_turn-moved R keep f h (x ∷ xs) e =
    let parts = and_parts (list_all (R x) xs) (is_in_turn R xs) e in
    let rest = is_in_turn-moved R keep f h xs parts.1 in
    cond_both (keep x) (x ∷ filter keep xs) (filter keep xs) (λ ys. is_in_turn R (map f ys) ≡ true)
    (λ k. and_from (list_all (R (f x)) (map f (filter keep xs))) (is_in_turn R (map f (filter keep xs)))
    (list_all-moved (R x) keep f (R (f x)) (λ y r l. h x y k l r) xs parts.0) rest)
    (λ k. rest)

pub is_in_turn-join : {X : Type 0} (R : X → X → Bool) (xs ys : List X) → is_in_turn R xs ≡ true → is_in_turn R ys ≡ true
    → list_all (λ x. list_all (R x) ys) xs ≡ true → is_in_turn R (xs ++ ys) ≡ true
is_in_turn-join R [] ys e f g = f
is_in_turn-join R (x ∷ xs) ys e f g =
    let parts = and_parts (list_all (R x) xs) (is_in_turn R xs) e in
    let across = and_parts (list_all (R x) ys) (list_all (λ z. list_all (R z) ys) xs) g in
    and_from (list_all (R x) (xs ++ ys)) (is_in_turn R (xs ++ ys)) (list_all-join (R x) xs ys parts.0 across.0)
    (is_in_turn-join R xs ys parts.1 f across.1)

pub is_in_turn-edited : {X : Type 0} (R : X → X → Bool) (before behind : X → Bool) (f : X → X)
    → ((x y : X) → behind x ≡ true → behind y ≡ true → R x y ≡ true → R (f x) (f y) ≡ true)
    → ((x y : X) → before x ≡ true → behind y ≡ true → R x (f y) ≡ true)
    → (xs : List X) → is_in_turn R xs ≡ true → is_in_turn R (filter before xs ++ map f (filter behind xs)) ≡ true
is_in_turn-edited {X} R before behind f h g xs e =
    is_in_turn-join R (filter before xs) (map f (filter behind xs)) (is_in_turn-filter R before xs e) (is_in_turn-moved R behind f h xs e)
    (list_all-filter (λ x. true) before (λ x. list_all (R x) (map f (filter behind xs)))
    (λ x _ l. list_all-moved (λ y. true) behind f (R x) (λ y _ k. g x y l k) xs (list_all-true xs)) xs (list_all-true xs))

pub is_in_turn-around : {X : Type 0} (R : X → X → Bool) (before behind : X → Bool) (z : X)
    → ((x : X) → before x ≡ true → R x z ≡ true) → ((x : X) → behind x ≡ true → R z x ≡ true)
    → ((x y : X) → before x ≡ true → behind y ≡ true → R x y ≡ true)
    → (xs : List X) → is_in_turn R xs ≡ true → is_in_turn R (filter before xs ++ (z ∷ filter behind xs)) ≡ true
is_in_turn-around R before behind z h g j xs e =
    let later = list_all-filter (λ y. true) behind (R z) (λ y _ k. g y k) xs (list_all-true xs) in
    is_in_turn-join R (filter before xs) (z ∷ filter behind xs) (is_in_turn-filter R before xs e)
    (and_from (list_all (R z) (filter behind xs)) (is_in_turn R (filter behind xs)) later (is_in_turn-filter R behind xs e))
    (list_all-filter (λ x. true) before (λ x. list_all (R x) (z ∷ filter behind xs))
    (λ x _ l. and_from (R x z) (list_all (R x) (filter behind xs)) (h x l)
    (list_all-filter (λ y. true) behind (R x) (λ y _ k. j x y l k) xs (list_all-true xs))) xs (list_all-true xs))

-- what all pass, each passes
pub list_all-at : {X : Type 0} (p : X → Bool) (xs : List X) (x : X) → list_all p xs ≡ true → Contains xs x → p x ≡ true
list_all-at p [] x e i = absurd (Contains-nil x i)
list_all-at p (y ∷ xs) x e i =
    let parts = and_parts (p y) (list_all p xs) e in
    elim (Contains-cases y xs x i) [ inl f ↦ ap p (sym f) ∙ parts.0 | inr j ↦ list_all-at p xs x parts.1 j ]

-- of two elements in turn one stands before the other, where they are two
pub is_in_turn-two : {X : Type 0} (R : X → X → Bool) (xs : List X) (x y : X) → is_in_turn R xs ≡ true → Contains xs x → Contains xs y → (x ≡ y) ⊎ ((R x y ≡ true) ⊎ (R y x ≡ true))
is_in_turn-two R [] x y e i j = absurd (Contains-nil x i)
is_in_turn-two R (z ∷ xs) x y e i j =
    let parts = and_parts (list_all (R z) xs) (is_in_turn R xs) e in
    elim (Contains-cases z xs x i) [
      | inl f ↦ elim (Contains-cases z xs y j) [
        | inl g ↦ inl (sym f ∙ g)
        | inr k ↦ inr (inl (ap (λ w. R w y) (sym f) ∙ list_all-at (R z) xs y parts.0 k))
      ]
      | inr l ↦ elim (Contains-cases z xs y j) [
        | inl g ↦ inr (inr (ap (λ w. R w x) (sym g) ∙ list_all-at (R z) xs x parts.0 l))
        | inr k ↦ is_in_turn-two R xs x y parts.1 l k
      ]
    ]
