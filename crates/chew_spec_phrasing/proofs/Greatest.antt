-- The greatest element of a list, by a total order.
use Rattle.std.proofs.Common.{◌≡◌, Bool, true, false, cond, List, [], ◌∷◌, fold, Contains, Some, None, Ordering, Less, Equal, Greater, is_lt, true≢false, ◌⊎◌, inl, inr, ⊎_elim, sym, refl, ap, ◌∙◌, subst, if◌then◌else◌}
use Rattle.std.specs.Cmp.{IsTotalOrder, IsStrictWeakOrder}
use Rattle.std.specs.List.{reduce}
use Rattle.std.specs.Ordering.{ordering_reverse}
use Rattle.std.proofs.lemmas.Cmp.{tied_itself}
use Rattle.std.proofs.lemmas.List.MinMax.{ranks_by}
use Rattle.std.proofs.lemmas.Option.{none-some, same_Some}
use Rattle.chew_spec_phrasing.proofs.Membership.{Contains-nil, Contains-head, Contains-tail, Contains-cases}

-- the greater of two, and the first where neither is
abbrev pub greater : {X : Type 0} → (X → X → Ordering) → X → X → X
greater cmp x y = if is_lt (cmp x y) then y else x

-- the element is one of the list, and none is above it
pub record IsGreatest {X : Type 0} (cmp : X → X → Ordering) (xs : List X) (best : X) : Type 0 where
  pub among : Contains xs best
  pub unbeaten : (x : X) → Contains xs x → is_lt (cmp best x) ≡ false

-- no element is above itself
pub not_above_itself : {X : Type 0} (cmp : X → X → Ordering) → IsTotalOrder cmp → (x : X) → is_lt (cmp x x) ≡ false
not_above_itself cmp o x = ap is_lt (tied_itself o x)

order : {X : Type 0} (cmp : X → X → Ordering) → IsTotalOrder cmp → IsStrictWeakOrder (λ x y. is_lt (cmp x y))
order cmp o = ranks_by o (λ x. x)

-- of two neither of which is above the other, each is a tie of the other
pub tied_from_both : {X : Type 0} (cmp : X → X → Ordering) → IsTotalOrder cmp → (x y : X) → is_lt (cmp x y) ≡ false → is_lt (cmp y x) ≡ false → cmp x y ≡ Equal
tied_from_both cmp o x y a b = by_values (cmp x y) (cmp y x) (o.antisymm x y) a b
  where
    by_values : (p q : Ordering) → p ≡ ordering_reverse q → is_lt p ≡ false → is_lt q ≡ false → p ≡ Equal
    by_values Less q e a b = absurd (true≢false a)
    by_values Equal q e a b = refl
    by_values Greater Less e a b = absurd (true≢false b)
    by_values Greater Equal e a b = e
    by_values Greater Greater e a b = cc

pub record IsGreaterOf {X : Type 0} (cmp : X → X → Ordering) (x y z : X) : Type 0 where
  pub one : (x ≡ z) ⊎ (y ≡ z)
  pub above_first : is_lt (cmp z x) ≡ false
  pub above_second : is_lt (cmp z y) ≡ false

pub greater_is : {X : Type 0} (cmp : X → X → Ordering) → IsTotalOrder cmp → (x y : X) (b : Bool) → is_lt (cmp x y) ≡ b → IsGreaterOf cmp x y (cond b y x)
greater_is cmp o x y true e =
    record { one = inr refl; above_first = (order cmp o).one_way x y e; above_second = not_above_itself cmp o y }
greater_is cmp o x y false e =
    record { one = inl refl; above_first = not_above_itself cmp o x; above_second = e }

among_both : {X : Type 0} (x y z : X) (ys : List X) (best : X) → (x ≡ z) ⊎ (y ≡ z) → Contains (z ∷ ys) best → Contains (x ∷ (y ∷ ys)) best
among_both x y z ys best one h =
    ⊎_elim
    (λ e. ⊎_elim
    (λ f. subst (Contains (x ∷ (y ∷ ys))) (f ∙ e) (Contains-head x (y ∷ ys)))
    (λ f. subst (Contains (x ∷ (y ∷ ys))) (f ∙ e) (Contains-tail x (y ∷ ys) y (Contains-head y ys)))
    one)
    (λ later. Contains-tail x (y ∷ ys) best (Contains-tail y ys best later))
    (Contains-cases z ys best h)

-- the fold of a list with `greater` is its greatest
pub IsGreatest-fold : {X : Type 0} (cmp : X → X → Ordering) → IsTotalOrder cmp → (x : X) (xs : List X) → IsGreatest cmp (x ∷ xs) (fold (greater cmp) x xs)
IsGreatest-fold cmp o x [] = record {
  among = Contains-head x [];
  unbeaten = λ y h. ⊎_elim (λ e. subst (λ z. is_lt (cmp x z) ≡ false) e (not_above_itself cmp o x)) (λ none. absurd (Contains-nil y none)) (Contains-cases x [] y h);
}
IsGreatest-fold cmp o x (y ∷ ys) =
    let z = greater cmp x y in
    let best = fold (greater cmp) z ys in
    let rest : IsGreatest cmp (z ∷ ys) best = IsGreatest-fold cmp o z ys in
    let is : IsGreaterOf cmp x y z = greater_is cmp o x y (is_lt (cmp x y)) refl in
    let top : is_lt (cmp best z) ≡ false = rest.unbeaten z (Contains-head z ys) in
    record {
      among = among_both x y z ys best is.one rest.among;
      unbeaten = λ w h. ⊎_elim
          (λ e. subst (λ v. is_lt (cmp best v) ≡ false) e ((order cmp o).chain best z x top is.above_first))
          (λ later. ⊎_elim
          (λ e. subst (λ v. is_lt (cmp best v) ≡ false) e ((order cmp o).chain best z y top is.above_second))
          (λ last. rest.unbeaten w (Contains-tail z ys w last))
          (Contains-cases y ys w later))
          (Contains-cases x (y ∷ ys) w h);
    }

-- what a list reduces to is its greatest
pub IsGreatest-from_reduce : {X : Type 0} (cmp : X → X → Ordering) → IsTotalOrder cmp → (xs : List X) (best : X) → reduce (greater cmp) xs ≡ Some best → IsGreatest cmp xs best
IsGreatest-from_reduce cmp o [] best e = absurd (none-some best e)
IsGreatest-from_reduce cmp o (x ∷ xs) best e =
    subst (IsGreatest cmp (x ∷ xs)) (same_Some (fold (greater cmp) x xs) best e) (IsGreatest-fold cmp o x xs)

-- only the empty list reduces to nothing
pub nothing_from_reduce : {X : Type 0} (f : X → X → X) (xs : List X) (x : X) → reduce f xs ≡ None → Contains xs x → ⊥
nothing_from_reduce f [] x e h = Contains-nil x h
nothing_from_reduce f (y ∷ ys) x e h = none-some (fold f y ys) (sym e)
