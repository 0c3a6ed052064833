-- What stands in a list of which some elements are kept, and those behind moved.
use Rattle.std.proofs.Common.{◌≡◌, ℕ, Bool, true, ◌⊎◌, inl, inr, List, [], ◌∷◌, ◌++◌, map, filter, Contains}
use Rattle.std.proofs.lemmas.List.Elements.{Contains-append_cases, Contains-append_left, Contains-append_right}
use Rattle.chew_spec_phrasing.proofs.Membership.{Contains-cases, Contains-filter, Contains-from_filter, Contains-from_map, Contains-head, Contains-map, Contains-tail}

-- an element that is kept where it was, and one that was moved to where it stands
pub record IsBefore {X : Type 0} (before : X → Bool) (xs : List X) (y : X) : Type 0 where
  pub kept : before y ≡ true
  pub among : Contains xs y

pub record IsMoved {X : Type 0} (behind : X → Bool) (move : X → X) (xs : List X) (y : X) : Type 0 where
  pub from : X
  pub kept : behind from ≡ true
  pub among : Contains xs from
  pub to : move from ≡ y

pub moved_from : {X : Type 0} (behind : X → Bool) (move : X → X) (xs : List X) (y : X) → Contains (map move (filter behind xs)) y → IsMoved behind move xs y
moved_from behind move xs y j =
    let k = Contains-from_map move (filter behind xs) y j in
    let l = Contains-from_filter behind xs k.0 k.1 in
    record { from = k.0; kept = l.1; among = l.0; to = k.2 }

pub edited_cases : {X : Type 0} (before behind : X → Bool) (move : X → X) (xs : List X) (y : X) → Contains (filter before xs ++ map move (filter behind xs)) y → IsBefore before xs y ⊎ IsMoved behind move xs y
edited_cases before behind move xs y i =
    elim (Contains-append_cases (filter before xs) (map move (filter behind xs)) y i) [
      | inl j ↦ inl (let k = Contains-from_filter before xs y j in record { kept = k.1; among = k.0 })
      | inr j ↦ inr (moved_from behind move xs y j)
    ]

pub edited_before : {X : Type 0} (before behind : X → Bool) (move : X → X) (xs : List X) (y : X) → before y ≡ true → Contains xs y → Contains (filter before xs ++ map move (filter behind xs)) y
edited_before before behind move xs y k i = Contains-append_left (filter before xs) (map move (filter behind xs)) y (Contains-filter before xs y i k)

pub edited_moved : {X : Type 0} (before behind : X → Bool) (move : X → X) (xs : List X) (x : X) → behind x ≡ true → Contains xs x → Contains (filter before xs ++ map move (filter behind xs)) (move x)
edited_moved before behind move xs x k i = Contains-append_right (filter before xs) (map move (filter behind xs)) (move x) (Contains-map move (filter behind xs) x (Contains-filter behind xs x i k))

pub moved_to : {X : Type 0} (behind : X → Bool) (move : X → X) (xs : List X) (x : X) → behind x ≡ true → Contains xs x → Contains (map move (filter behind xs)) (move x)
moved_to behind move xs x k i = Contains-map move (filter behind xs) x (Contains-filter behind xs x i k)

-- the same with one more between them
pub around_cases : {X : Type 0} (before behind : X → Bool) (z : X) (xs : List X) (y : X) → Contains (filter before xs ++ (z ∷ filter behind xs)) y → (z ≡ y) ⊎ (IsBefore before xs y ⊎ IsBefore behind xs y)
around_cases before behind z xs y i =
    elim (Contains-append_cases (filter before xs) (z ∷ filter behind xs) y i) [
      | inl j ↦ inr (inl (let k = Contains-from_filter before xs y j in record { kept = k.1; among = k.0 }))
      | inr j ↦ elim (Contains-cases z (filter behind xs) y j) [ inl e ↦ inl e | inr k ↦ inr (inr (let l = Contains-from_filter behind xs y k in record { kept = l.1; among = l.0 })) ]
    ]

pub around_own : {X : Type 0} (before behind : X → Bool) (z : X) (xs : List X) → Contains (filter before xs ++ (z ∷ filter behind xs)) z
around_own before behind z xs = Contains-append_right (filter before xs) (z ∷ filter behind xs) z (Contains-head z (filter behind xs))

pub around_before : {X : Type 0} (before behind : X → Bool) (z : X) (xs : List X) (y : X) → before y ≡ true → Contains xs y → Contains (filter before xs ++ (z ∷ filter behind xs)) y
around_before before behind z xs y k i = Contains-append_left (filter before xs) (z ∷ filter behind xs) y (Contains-filter before xs y i k)

pub around_behind : {X : Type 0} (before behind : X → Bool) (z : X) (xs : List X) (y : X) → behind y ≡ true → Contains xs y → Contains (filter before xs ++ (z ∷ filter behind xs)) y
around_behind before behind z xs y k i = Contains-append_right (filter before xs) (z ∷ filter behind xs) y (Contains-tail z (filter behind xs) y (Contains-filter behind xs y i k))
