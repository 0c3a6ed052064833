-- What is an element of a list that is made of others.
use Rattle.std.proofs.Common.{◌≡◌, ℕ, zero, suc, ◌<◌, Bool, true, false, cond, List, [], ◌∷◌, length, get_or, map, filter, flat_map, filter_map, Option, Some, None, Contains, All, ◌⊎◌, inl, inr, ⊎_elim, sym, refl, ap, ◌∙◌, subst, arith}
use Rattle.std.proofs.lemmas.List.Elements.{All-cons, All-nil, Contains-append_cases}
use Rattle.std.specs.List.{cons_option}
use Rattle.chew_spec_dictionary.proofs.Hits.{contained_filter, contained_joined, contained_map}

-- nothing is an element of the empty list
pub Contains-nil : {X : Type 0} (x : X) → Contains [] x → ⊥
Contains-nil x h = omega (arith, h.1)

-- the first element, and a later one
pub Contains-head : {X : Type 0} (x : X) (xs : List X) → Contains (x ∷ xs) x
Contains-head x xs = (0, omega arith, refl)

pub Contains-tail : {X : Type 0} (y : X) (xs : List X) (x : X) → Contains xs x → Contains (y ∷ xs) x
Contains-tail y xs x h = (suc h.0, omega (arith, h.1), h.2)

cases_at : {X : Type 0} (y : X) (xs : List X) (x : X) (k : ℕ) → k < length (y ∷ xs) → get_or (y ∷ xs) k x ≡ x → (y ≡ x) ⊎ Contains xs x
cases_at y xs x zero l e = inl e
cases_at y xs x (suc k) l e = inr (k, omega arith, e)

-- an element is the first or a later one
pub Contains-cases : {X : Type 0} (y : X) (xs : List X) (x : X) → Contains (y ∷ xs) x → (y ≡ x) ⊎ Contains xs x
Contains-cases y xs x h = cases_at y xs x h.0 h.1 h.2

-- the one element of a list of one
pub Contains-single : {X : Type 0} (y x : X) → Contains (y ∷ []) x → y ≡ x
Contains-single y x h = ⊎_elim (λ e. e) (λ none. absurd (Contains-nil x none)) (Contains-cases y [] x h)

-- an element of a piece is one of the pieces joined
pub Contains-flat_map : {X Y : Type 0} (f : X → List Y) (xs : List X) (x : X) (y : Y) → Contains xs x → Contains (f x) y → Contains (flat_map f xs) y
Contains-flat_map = contained_joined

-- an element of the pieces joined is one of a piece
pub Contains-from_flat_map : {X Y : Type 0} (f : X → List Y) (xs : List X) (y : Y) → Contains (flat_map f xs) y → (x : X) × Contains xs x × Contains (f x) y
Contains-from_flat_map f [] y h = absurd (Contains-nil y h)
Contains-from_flat_map f (z ∷ zs) y h =
    ⊎_elim (λ first. (z, Contains-head z zs, first))
    (λ later. let rest = Contains-from_flat_map f zs y later in (rest.0, Contains-tail z zs rest.0 rest.1, rest.2))
    (Contains-append_cases (f z) (flat_map f zs) y h)

cons_either : {Y : Type 0} (o : Option Y) (ys : List Y) (y : Y) → Contains (cons_option o ys) y → (o ≡ Some y) ⊎ Contains ys y
cons_either None ys y h = inr h
cons_either (Some z) ys y h = ⊎_elim (λ e. inl (ap Some e)) (λ later. inr later) (Contains-cases z ys y h)

cons_later : {Y : Type 0} (o : Option Y) (ys : List Y) (y : Y) → Contains ys y → Contains (cons_option o ys) y
cons_later None ys y h = h
cons_later (Some z) ys y h = Contains-tail z ys y h

cons_first : {Y : Type 0} (o : Option Y) (ys : List Y) (y : Y) → o ≡ Some y → Contains (cons_option o ys) y
cons_first o ys y e = subst (λ p. Contains (cons_option p ys) y) (sym e) (Contains-head y ys)

-- what h gives of an element is one of all that it gives
pub Contains-filter_map : {X Y : Type 0} (h : X → Option Y) (xs : List X) (x : X) (y : Y) → Contains xs x → h x ≡ Some y → Contains (filter_map h xs) y
Contains-filter_map h [] x y i e = absurd (Contains-nil x i)
Contains-filter_map h (z ∷ zs) x y i e =
    ⊎_elim (λ first. cons_first (h z) (filter_map h zs) y (ap h first ∙ e))
    (λ later. cons_later (h z) (filter_map h zs) y (Contains-filter_map h zs x y later e))
    (Contains-cases z zs x i)

-- each of all that h gives comes from an element
pub Contains-from_filter_map : {X Y : Type 0} (h : X → Option Y) (xs : List X) (y : Y) → Contains (filter_map h xs) y → (x : X) × Contains xs x × (h x ≡ Some y)
Contains-from_filter_map h [] y i = absurd (Contains-nil y i)
Contains-from_filter_map h (z ∷ zs) y i =
    ⊎_elim (λ first. (z, Contains-head z zs, first))
    (λ later. let rest = Contains-from_filter_map h zs y later in (rest.0, Contains-tail z zs rest.0 rest.1, rest.2))
    (cons_either (h z) (filter_map h zs) y i)

kept_either : {X : Type 0} (b : Bool) (z : X) (zs : List X) (x : X) → Contains (cond b (z ∷ zs) zs) x → ((z ≡ x) × (b ≡ true)) ⊎ Contains zs x
kept_either true z zs x h = ⊎_elim (λ e. inl (e, refl)) (λ later. inr later) (Contains-cases z zs x h)
kept_either false z zs x h = inr h

-- a filter keeps each element that passes
pub Contains-filter : {X : Type 0} (p : X → Bool) (xs : List X) (x : X) → Contains xs x → p x ≡ true → Contains (filter p xs) x
Contains-filter p xs x h passes = contained_filter p x passes xs h.0 h.1 h.2

-- and no other
pub Contains-from_filter : {X : Type 0} (p : X → Bool) (xs : List X) (x : X) → Contains (filter p xs) x → Contains xs x × (p x ≡ true)
Contains-from_filter p [] x h = absurd (Contains-nil x h)
Contains-from_filter p (z ∷ zs) x h =
    ⊎_elim (λ e. (subst (λ w. Contains (z ∷ zs) w) e.0 (Contains-head z zs), sym (ap p e.0) ∙ e.1))
    (λ later. let rest = Contains-from_filter p zs x later in (Contains-tail z zs x rest.0, rest.1))
    (kept_either (p z) z (filter p zs) x h)

-- f of each element is one of the list of them, and no other is
pub Contains-map : {X Y : Type 0} (f : X → Y) (xs : List X) (x : X) → Contains xs x → Contains (map f xs) (f x)
Contains-map f xs x h = contained_map f x xs h.0 h.1 h.2

pub Contains-from_map : {X Y : Type 0} (f : X → Y) (xs : List X) (y : Y) → Contains (map f xs) y → (x : X) × Contains xs x × (f x ≡ y)
Contains-from_map f [] y h = absurd (Contains-nil y h)
Contains-from_map f (z ∷ zs) y h =
    ⊎_elim (λ e. (z, Contains-head z zs, e))
    (λ later. let rest = Contains-from_map f zs y later in (rest.0, Contains-tail z zs rest.0 rest.1, rest.2))
    (Contains-cases (f z) (map f zs) y h)

-- what holds of every element, shown for an element
pub All-from_Contains : {X : Type 0} (P : X → Type 0) (xs : List X) → ((x : X) → Contains xs x → P x) → All P xs
All-from_Contains P [] h = All-nil P
All-from_Contains P (z ∷ zs) h =
    All-cons P z zs (h z (Contains-head z zs)) (All-from_Contains P zs (λ x i. h x (Contains-tail z zs x i)))
