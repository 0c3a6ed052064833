-- Lists in which each element is below all that follow: they are known by their elements.
use Rattle.std.proofs.Common.{◌≡◌, ◌⊎◌, Bool, true, false, List, [], ◌∷◌, ◌++◌, refl, sym, ap, ◌∙◌, ap₂, inl, inr, ⊎_elim, subst}
use Rattle.std.specs.Bool.{⊤}
use Rattle.std.specs.List.{filter, flat_map}
use Rattle.std.proofs.lemmas.Bool.{cases_Bool, cond-true, cond-false, cond_both}

-- x is an element
abbrev pub In : {X : Type 0} → X → List X → Type 0
In x [] = ⊥
In x (y ∷ ys) = (x ≡ y) ⊎ In x ys

pub in_left : {X : Type 0} (x : X) (xs ys : List X) → In x xs → In x (xs ++ ys)
in_left x [] ys i = absurd i
in_left x (z ∷ xs) ys (inl e) = inl e
in_left x (z ∷ xs) ys (inr i) = inr (in_left x xs ys i)

pub in_right : {X : Type 0} (x : X) (xs ys : List X) → In x ys → In x (xs ++ ys)
in_right x [] ys i = i
in_right x (z ∷ xs) ys i = inr (in_right x xs ys i)

pub in_append : {X : Type 0} (x : X) (xs ys : List X) → In x (xs ++ ys) → In x xs ⊎ In x ys
in_append x [] ys i = inr i
in_append x (z ∷ xs) ys (inl e) = inl (inl e)
in_append x (z ∷ xs) ys (inr i) = ⊎_elim (λ (l : In x xs). inl (inr l)) (λ (r : In x ys). inr r) (in_append x xs ys i)

-- an element of joined lists is one of a part, and the other way round
pub in_flat : {X Y : Type 0} (f : Y → List X) (x : X) (ys : List Y) → In x (flat_map f ys) → (y : Y) × In y ys × In x (f y)
in_flat f x [] i = absurd i
in_flat {Y = Y} f x (y ∷ ys) i = ⊎_elim
    (λ (h : In x (f y)). (y, inl refl, h))
    (λ (h : In x (flat_map f ys)). let r = in_flat f x ys h in (r.0, inr r.1, r.2))
    (in_append x (f y) (flat_map f ys) i)

pub in_part : {X Y : Type 0} (f : Y → List X) (x : X) (y : Y) (ys : List Y) → In y ys → In x (f y) → In x (flat_map f ys)
in_part f x y [] i h = absurd i
in_part f x y (z ∷ ys) (inl e) h = in_left x (f z) (flat_map f ys) (subst (λ w. In x (f w)) e h)
in_part f x y (z ∷ ys) (inr i) h = in_right x (f z) (flat_map f ys) (in_part f x y ys i h)

-- an element of a filter is one that passes
pub in_filter : {X : Type 0} (test : X → Bool) (x : X) (xs : List X) → In x (filter test xs) → In x xs × (test x ≡ true)
in_filter test x [] i = absurd i
in_filter test x (y ∷ xs) i = ⊎_elim
    (λ (yes : test y ≡ true). ⊎_elim
    (λ (e : x ≡ y). (inl e, ap test e ∙ yes))
    (λ (h : In x (filter test xs)). let r = in_filter test x xs h in (inr r.0, r.1))
    (subst (In x) (cond-true (test y) (y ∷ filter test xs) (filter test xs) yes) i))
    (λ (no : test y ≡ false). let r = in_filter test x xs (subst (In x) (cond-false (test y) (y ∷ filter test xs) (filter test xs) no) i) in (inr r.0, r.1))
    (cases_Bool (test y))

pub in_passing : {X : Type 0} (test : X → Bool) (x : X) (xs : List X) → In x xs → test x ≡ true → In x (filter test xs)
in_passing test x [] i t = absurd i
in_passing test x (y ∷ xs) (inl e) t = subst (In x) (sym (cond-true (test y) (y ∷ filter test xs) (filter test xs) (ap test (sym e) ∙ t))) (inl e)
in_passing test x (y ∷ xs) (inr i) t = cond_both (test y) (y ∷ filter test xs) (filter test xs) (In x) (λ _. inr (in_passing test x xs i t)) (λ _. in_passing test x xs i t)

-- lists by what it means to be below, which never holds both ways
module _ {X : Type 0} (Below : X → X → Type 0) where
  -- x is below each
  abbrev pub Above : X → List X → Type 0
  Above x [] = ⊤
  Above x (y ∷ ys) = Below x y × Above x ys

  -- each is below all that follow
  abbrev pub Up : List X → Type 0
  Up [] = ⊤
  Up (x ∷ xs) = Above x xs × Up xs

  pub above_in : (x y : X) (ys : List X) → Above x ys → In y ys → Below x y
  above_in x y [] a i = absurd i
  above_in x y (z ∷ ys) a (inl e) = subst (Below x) (sym e) a.0
  above_in x y (z ∷ ys) a (inr i) = above_in x y ys a.1 i

  pub above_from : (x : X) (ys : List X) → ((y : X) → In y ys → Below x y) → Above x ys
  above_from x [] h = tt
  above_from x (y ∷ ys) h = (h y (inl refl), above_from x ys (λ z i. h z (inr i)))

  pub up_append : (xs ys : List X) → Up xs → Up ys → ((x y : X) → In x xs → In y ys → Below x y) → Up (xs ++ ys)
  up_append [] ys a b h = b
  up_append (x ∷ xs) ys a b h = (
    above_from x (xs ++ ys) (λ z i. ⊎_elim (λ (l : In z xs). above_in x z xs a.0 l) (λ (r : In z ys). h x z (inl refl) r) (in_append z xs ys i)),
    up_append xs ys a.1 b (λ y z i j. h y z (inr i) j),
  )

  pub up_filter : (test : X → Bool) (xs : List X) → Up xs → Up (filter test xs)
  up_filter test [] u = tt
  up_filter test (x ∷ xs) u = cond_both (test x) (x ∷ filter test xs) (filter test xs) Up
      (λ _. (above_from x (filter test xs) (λ y i. above_in x y xs u.0 (in_filter test y xs i).0), up_filter test xs u.1))
      (λ _. up_filter test xs u.1)

  -- the elements of an earlier part are below those of a later one
  abbrev pub UpParts : {Y : Type 0} → (Y → List X) → List Y → Type 0
  UpParts f [] = ⊤
  UpParts {Y} f (y ∷ ys) = ((z : Y) (a b : X) → In z ys → In a (f y) → In b (f z) → Below a b) × UpParts f ys

  -- parts joined, where each is such, and those of an earlier one are below those of a later one
  pub up_flat : {Y : Type 0} (f : Y → List X) (ys : List Y) → ((y : Y) → In y ys → Up (f y)) → UpParts f ys → Up (flat_map f ys)
  up_flat f [] each apart = tt
  up_flat f (y ∷ ys) each apart = up_append (f y) (flat_map f ys) (each y (inl refl)) (up_flat f ys (λ z i. each z (inr i)) apart.1)
      (λ a b i j. let r = in_flat f b ys j in apart.0 r.0 a b r.1 i r.2)

  -- such lists with the same elements are equal
  module _ (never : (x y : X) → Below x y → Below y x → ⊥) where
    pub up_alike : (xs ys : List X) → Up xs → Up ys → ((z : X) → In z xs → In z ys) → ((z : X) → In z ys → In z xs) → xs ≡ ys
    up_alike [] [] a b to from = refl
    up_alike [] (y ∷ ys) a b to from = absurd (from y (inl refl))
    up_alike (x ∷ xs) [] a b to from = absurd (to x (inl refl))
    up_alike (x ∷ xs) (y ∷ ys) a b to from =
        let same = heads (to x (inl refl)) (from y (inl refl)) in
        ap₂ (λ (z : X) (zs : List X). z ∷ zs) same
        (up_alike xs ys a.1 b.1 (λ z i. tail z x y xs ys same a.0 i (to z (inr i))) (λ z i. tail z y x ys xs (sym same) b.0 i (from z (inr i))))
      where
        heads : (x ≡ y) ⊎ In x ys → (y ≡ x) ⊎ In y xs → x ≡ y
        heads (inl e) j = e
        heads (inr i) (inl e) = sym e
        heads (inr i) (inr j) = absurd (never x y (above_in x y xs a.0 j) (above_in y x ys b.0 i))

        tail : (z v w : X) (vs ws : List X) → v ≡ w → Above v vs → In z vs → (z ≡ w) ⊎ In z ws → In z ws
        tail z v w vs ws e above i (inr j) = j
        tail z v w vs ws e above i (inl s) = let below = above_in v z vs above i in
            let back : Below z v = subst (λ u. Below u v) (e ∙ sym s) (subst (λ u. Below v u) (s ∙ sym e) below) in
            absurd (never v z below back)
