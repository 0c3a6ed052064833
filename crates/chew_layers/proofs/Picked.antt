-- What tests pick of a list, and of the list put in order.
use Rattle.std.proofs.Common.{◌≡◌, Bool, true, false, List, [], ◌∷◌, ◌&&◌, cond, refl, ap, sym, ◌∙◌, subst, Ordering, is_lt, IsPermutation}
use Rattle.std.specs.List.{filter, list_all}
use Rattle.std.proofs.lemmas.Bool.{cond-true, cond-false, cond_both, and_parts, and_from}
use Rattle.std.proofs.lemmas.List.Sorted.{IsPermutation-refl, IsPermutation-cons, IsPermutation-trans, IsPermutation-middle}
use Rattle.chew_spec_dictionary.specs.Order.{put, in_order}

module _ {X : Type 0} where
  -- two tests, in either order
  pub filter_swap : (p q : X → Bool) (xs : List X) → filter p (filter q xs) ≡ filter q (filter p xs)
  filter_swap p q [] = refl
  filter_swap p q (x ∷ xs) = by (p x) (q x) refl refl (filter_swap p q xs)
    where
      by : (a b : Bool) → p x ≡ a → q x ≡ b → filter p (filter q xs) ≡ filter q (filter p xs)
          → filter p (cond b (x ∷ filter q xs) (filter q xs)) ≡ filter q (cond a (x ∷ filter p xs) (filter p xs))
      by true true a b later = cond-true _ _ _ a ∙ ap (λ (l : List X). x ∷ l) later ∙ sym (cond-true _ _ _ b)
      by true false a b later = later ∙ sym (cond-false _ _ _ b)
      by false true a b later = cond-false _ _ _ a ∙ later
      by false false a b later = later

  -- two tests as one
  filter_both : (p q : X → Bool) (xs : List X) → filter p (filter q xs) ≡ filter (λ x. q x && p x) xs
  filter_both p q [] = refl
  filter_both p q (x ∷ xs) = by (q x) (filter_both p q xs)
    where
      by : (b : Bool) → filter p (filter q xs) ≡ filter (λ x. q x && p x) xs
          → filter p (cond b (x ∷ filter q xs) (filter q xs)) ≡ cond (b && p x) (x ∷ filter (λ x. q x && p x) xs) (filter (λ x. q x && p x) xs)
      by true later = ap (λ (l : List X). cond (p x) (x ∷ l) l) later
      by false later = later

  -- one element more, of which the test says the same
  picked_more : (p : X → Bool) (x : X) (xs ys : List X) → IsPermutation (filter p xs) (filter p ys) → IsPermutation (filter p (x ∷ xs)) (filter p (x ∷ ys))
  picked_more p x xs ys h = by (p x)
    where
      by : (b : Bool) → IsPermutation (cond b (x ∷ filter p xs) (filter p xs)) (cond b (x ∷ filter p ys) (filter p ys))
      by true = IsPermutation-cons x _ _ h
      by false = h

  -- two elements, in either order
  picked_swap : (p : X → Bool) (x y : X) (xs : List X) → IsPermutation (filter p (x ∷ (y ∷ xs))) (filter p (y ∷ (x ∷ xs)))
  picked_swap p x y xs = by (p x) (p y) (filter p xs)
    where
      by : (a b : Bool) (l : List X) → IsPermutation (cond a (x ∷ cond b (y ∷ l) l) (cond b (y ∷ l) l)) (cond b (y ∷ cond a (x ∷ l) l) (cond a (x ∷ l) l))
      by true true l = IsPermutation-middle (x ∷ []) y l
      by true false l = IsPermutation-refl (x ∷ l)
      by false true l = IsPermutation-refl (y ∷ l)
      by false false l = IsPermutation-refl l

  module _ (cmp : X → X → Ordering) where
    picked_put : (p : X → Bool) (x : X) (xs : List X) → IsPermutation (filter p (x ∷ xs)) (filter p (put cmp x xs))
    picked_put p x [] = IsPermutation-refl (filter p (x ∷ []))
    picked_put p x (y ∷ ys) =
        cond_both (is_lt (cmp y x)) (y ∷ put cmp x ys) (x ∷ (y ∷ ys)) (λ l. IsPermutation (filter p (x ∷ (y ∷ ys))) (filter p l))
        (λ _. IsPermutation-trans _ _ _ (picked_swap p x y ys) (picked_more p y (x ∷ ys) (put cmp x ys) (picked_put p x ys)))
        (λ _. IsPermutation-refl (filter p (x ∷ (y ∷ ys))))

    -- what a test picks of a list put in order are the elements that it picks of the list
    pub picked_ordered : (p : X → Bool) (xs : List X) → IsPermutation (filter p xs) (filter p (in_order cmp xs))
    picked_ordered p [] = IsPermutation-refl []
    picked_ordered p (x ∷ xs) = IsPermutation-trans _ _ _ (picked_more p x xs (in_order cmp xs) (picked_ordered p xs)) (picked_put p x (in_order cmp xs))

    -- the same of two tests
    pub picked_twice : (p q : X → Bool) (xs : List X) → IsPermutation (filter p (filter q xs)) (filter p (filter q (in_order cmp xs)))
    picked_twice p q xs =
        subst (λ (l : List X). IsPermutation l (filter p (filter q (in_order cmp xs)))) (sym (filter_both p q xs))
        (subst (IsPermutation (filter (λ x. q x && p x) xs)) (sym (filter_both p q (in_order cmp xs))) (picked_ordered (λ x. q x && p x) xs))

  -- what one test says of all, it says of those that another picks, and of those that it picks itself
  pub all_picked : (t p : X → Bool) (xs : List X) → list_all t xs ≡ true → list_all t (filter p xs) ≡ true
  all_picked t p [] h = refl
  all_picked t p (x ∷ xs) h =
      let both = and_parts (t x) (list_all t xs) h in
      let later = all_picked t p xs both.1 in
      cond_both (p x) (x ∷ filter p xs) (filter p xs) (λ l. list_all t l ≡ true) (λ _. and_from _ _ both.0 later) (λ _. later)

  pub picked_pass : (p : X → Bool) (xs : List X) → list_all p (filter p xs) ≡ true
  picked_pass p [] = refl
  picked_pass p (x ∷ xs) = cond_both (p x) (x ∷ filter p xs) (filter p xs) (λ l. list_all p l ≡ true) (λ t. and_from _ _ t (picked_pass p xs)) (λ _. picked_pass p xs)
