-- Lists put in order: what rises already stays, and a stable sort gives the list put in order.
use Rattle.std.proofs.Common.{◌≡◌, ℕ, suc, ◌≤◌, ◌<◌, Bool, true, false, List, [], ◌∷◌, ◌&&◌, not, length, map, get_or, refl, ap, sym, ◌∙◌, cond, subst, ap₂, ⊎_elim, Ordering, is_lt, true≢false, arith}
use Rattle.std.specs.Cmp.{IsStrictWeakOrder}
use Rattle.std.specs.List.{filter}
use Rattle.std.specs.List.Sorted.{IsSortedBy, IsStableBy, ties}
use Rattle.std.proofs.lemmas.Bool.{cond-true, cond-false, cond_both, and_parts, and_from, cases_Bool}
use Rattle.std.proofs.lemmas.List.Sorted.{sorted_far}
use Rattle.chew_spec_dictionary.specs.Order.{put, in_order}

-- a list with an element is not empty
not_empty : {X : Type 0} (x : X) (xs : List X) → [] ≡ x ∷ xs → ⊥
not_empty x xs e = cc

-- the first elements of equal lists are equal, and what follows them
heads : {X : Type 0} (x y : X) (xs ys : List X) → x ∷ xs ≡ y ∷ ys → (x ≡ y) × (xs ≡ ys)
heads x y xs ys e = let h : x ≡ y = cc in let t : xs ≡ ys = cc in (h, t)

module _ {X : Type 0} (lt : X → X → Bool) where
  -- no element is less than x
  abbrev pub NoneBelow : X → List X → Type 0
  NoneBelow x [] = Unit {0}
  NoneBelow x (y ∷ ys) = (lt y x ≡ false) × NoneBelow x ys

  -- no element is less than one before it
  abbrev pub Rises : List X → Type 0
  Rises [] = Unit {0}
  Rises (x ∷ xs) = NoneBelow x xs × Rises xs

  none_below_at : (x : X) (xs : List X) → ((k : ℕ) → k < length xs → lt (get_or xs k x) x ≡ false) → NoneBelow x xs
  none_below_at x [] h = tt
  none_below_at x (y ∷ ys) h = (h 0 (omega arith), none_below_at x ys (λ k p. h (suc k) (omega arith)))

  rises_at : (xs : List X) → ((i j : ℕ) (d : X) → i ≤ j → j < length xs → lt (get_or xs j d) (get_or xs i d) ≡ false) → Rises xs
  rises_at [] h = tt
  rises_at (x ∷ xs) h = (none_below_at x xs (λ k p. h 0 (suc k) x (omega arith) (omega arith)), rises_at xs (λ i j d p q. h (suc i) (suc j) d (omega arith) (omega arith)))

  -- what a sort leaves rises
  pub rises_sorted : IsStrictWeakOrder lt → (xs : List X) → IsSortedBy lt xs → Rises xs
  rises_sorted o xs up = rises_at xs (sorted_far lt o xs up)

  -- elements of which one is less don't tie
  less_no_tie : (x y : X) → lt x y ≡ true → ties lt x y ≡ false
  less_no_tie x y e = ap (λ (b : Bool). not b && not (lt y x)) e

  -- elements of which neither is less tie
  neither_ties : (x y : X) → lt x y ≡ false → lt y x ≡ false → ties lt x y ≡ true
  neither_ties x y e f = and_from _ _ (ap not e) (ap not f)

  -- what not says of false
  not_true : (b : Bool) → not b ≡ true → b ≡ false
  not_true true e = sym e
  not_true false e = refl

  module _ (o : IsStrictWeakOrder lt) where
    -- nothing is less than itself
    not_itself : (x : X) → lt x x ≡ false
    not_itself x = ⊎_elim (λ (t : lt x x ≡ true). o.one_way x x t) (λ (f : lt x x ≡ false). f) (cases_Bool (lt x x))

    -- where z is less than y, and y is less than no element of a list, no element ties with z
    none_tied : (z y : X) (ys : List X) → lt z y ≡ true → NoneBelow y ys → filter (ties lt z) ys ≡ []
    none_tied z y [] l h = refl
    none_tied z y (w ∷ ys) l h = cond-false _ _ _ (apart w h.0) ∙ none_tied z y ys l h.1
      where
        apart : (w : X) → lt w y ≡ false → ties lt z w ≡ false
        apart w n = ⊎_elim
            (λ (t : lt z w ≡ true). less_no_tie z w t)
            (λ (f : lt z w ≡ false). absurd (true≢false (sym l ∙ o.chain z w y f n)))
            (cases_Bool (lt z w))

    -- the head of a list that rises is less than the head of no other with the same elements that tie
    heads_level : (y z : X) (ys zs : List X) → NoneBelow y ys → filter (ties lt z) (y ∷ ys) ≡ filter (ties lt z) (z ∷ zs) → lt z y ≡ false
    heads_level y z ys zs n same = ⊎_elim
        (λ (t : lt z y ≡ true). absurd (not_empty z (filter (ties lt z) zs)
        (sym (none_tied z y (y ∷ ys) t (not_itself y, n)) ∙ same ∙ cond-true _ _ _ (neither_ties z z (not_itself z) (not_itself z)))))
        (λ (f : lt z y ≡ false). f)
        (cases_Bool (lt z y))

    -- elements that tie behind equal heads
    tails_tie : (x y : X) (ys zs : List X) → filter (ties lt x) (y ∷ ys) ≡ filter (ties lt x) (y ∷ zs) → filter (ties lt x) ys ≡ filter (ties lt x) zs
    tails_tie x y ys zs same = ⊎_elim
        (λ (t : ties lt x y ≡ true). (heads y y _ _ (sym (cond-true _ _ _ t) ∙ same ∙ cond-true _ _ _ t)).1)
        (λ (f : ties lt x y ≡ false). sym (cond-false _ _ _ f) ∙ same ∙ cond-false _ _ _ f)
        (cases_Bool (ties lt x y))

    -- lists that rise and have the same elements that tie, in the same order, are equal
    pub rises_once : (ys zs : List X) → Rises ys → Rises zs → ((x : X) → filter (ties lt x) ys ≡ filter (ties lt x) zs) → ys ≡ zs
    rises_once [] [] a b same = refl
    rises_once [] (z ∷ zs) a b same = absurd (not_empty z (filter (ties lt z) zs) (same z ∙ cond-true _ _ _ (neither_ties z z (not_itself z) (not_itself z))))
    rises_once (y ∷ ys) [] a b same = absurd (not_empty y (filter (ties lt y) ys) (sym (same y) ∙ cond-true _ _ _ (neither_ties y y (not_itself y) (not_itself y))))
    rises_once (y ∷ ys) (z ∷ zs) a b same =
        let zy : lt z y ≡ false = heads_level y z ys zs a.0 (same z) in
        let yz : lt y z ≡ false = heads_level z y zs ys b.0 (sym (same y)) in
        let first = heads y z (filter (ties lt y) ys) (filter (ties lt y) zs)
        (sym (cond-true _ _ _ (neither_ties y y (not_itself y) (not_itself y))) ∙ same y ∙ cond-true _ _ _ (neither_ties y z yz zy)) in
        let rest = rises_once ys zs a.1 b.1 (λ x. tails_tie x y ys zs (same x ∙ ap (λ (h : X). filter (ties lt x) (h ∷ zs)) (sym first.0))) in
        ap₂ (λ (h : X) (t : List X). h ∷ t) first.0 rest

module _ {X : Type 0} (cmp : X → X → Ordering) where
  -- the test that put asks
  abbrev pub less : X → X → Bool
  less x y = is_lt (cmp x y)

  -- what no element is below goes to the front
  put_low : (x : X) (xs : List X) → NoneBelow less x xs → put cmp x xs ≡ x ∷ xs
  put_low x [] h = refl
  put_low x (y ∷ ys) h = cond-false _ _ _ h.0

  -- a list that rises is in order
  pub in_order_rises : (xs : List X) → Rises less xs → in_order cmp xs ≡ xs
  in_order_rises [] h = refl
  in_order_rises (x ∷ xs) h = ap (put cmp x) (in_order_rises xs h.1) ∙ put_low x xs h.0

  -- what is put into a list is there too
  none_below_put : (low x : X) (xs : List X) → less x low ≡ false → NoneBelow less low xs → NoneBelow less low (put cmp x xs)
  none_below_put low x [] l h = (l, tt)
  none_below_put low x (y ∷ ys) l h = cond_both (less y x) (y ∷ put cmp x ys) (x ∷ (y ∷ ys)) (NoneBelow less low)
      (λ _. (h.0, none_below_put low x ys l h.1))
      (λ _. (l, h))

  module _ (o : IsStrictWeakOrder less) where
    -- what isn't below y, which isn't below x, isn't below x
    none_below_on : (x y : X) (ys : List X) → less y x ≡ false → NoneBelow less y ys → NoneBelow less x ys
    none_below_on x y [] l h = tt
    none_below_on x y (z ∷ ys) l h = (o.chain z y x h.0 l, none_below_on x y ys l h.1)

    put_rises : (x : X) (xs : List X) → Rises less xs → Rises less (put cmp x xs)
    put_rises x [] h = (tt, tt)
    put_rises x (y ∷ ys) h = cond_both (less y x) (y ∷ put cmp x ys) (x ∷ (y ∷ ys)) (Rises less)
        (λ t. (none_below_put y x ys (o.one_way y x t) h.0, put_rises x ys h.1))
        (λ f. ((f, none_below_on x y ys f h.0), h))

    -- a list in order rises
    pub rises_in_order : (xs : List X) → Rises less (in_order cmp xs)
    rises_in_order [] = tt
    rises_in_order (x ∷ xs) = put_rises x (in_order cmp xs) (rises_in_order xs)

    -- a less element that x ties with, then y can't tie with x too
    not_both : (x y a : X) → less y a ≡ true → ties less x a ≡ true → ties less x y ≡ false
    not_both x y a l t =
        let both = and_parts (not (less x a)) (not (less a x)) t in
        ⊎_elim
        (λ (m : less y x ≡ true). ap (λ (b : Bool). not (less x y) && not b) m ∙ last (not (less x y)))
        (λ (n : less y x ≡ false). absurd (true≢false (sym l ∙ o.chain y x a n (not_true less _ both.0))))
        (cases_Bool (less y x))
      where
        last : (b : Bool) → b && false ≡ false
        last true = refl
        last false = refl

    -- an element that is put in comes before those that tie with it
    filter_put : (x a : X) (ys : List X) → filter (ties less x) (put cmp a ys) ≡ filter (ties less x) (a ∷ ys)
    filter_put x a [] = refl
    filter_put x a (y ∷ ys) = cond_both (less y a) (y ∷ put cmp a ys) (a ∷ (y ∷ ys)) (λ l. filter (ties less x) l ≡ filter (ties less x) (a ∷ (y ∷ ys)))
        (λ t. ap (λ (l : List X). cond (ties less x y) (y ∷ l) l) (filter_put x a ys) ∙ swapped (ties less x a) (ties less x y) (filter (ties less x) ys) (λ e. not_both x y a t e))
        (λ _. refl)
      where
        swapped : (p q : Bool) (l : List X) → (p ≡ true → q ≡ false) → cond q (y ∷ cond p (a ∷ l) l) (cond p (a ∷ l) l) ≡ cond p (a ∷ cond q (y ∷ l) l) (cond q (y ∷ l) l)
        swapped false q l h = refl
        swapped true q l h = subst (λ (b : Bool). cond b (y ∷ (a ∷ l)) (a ∷ l) ≡ a ∷ cond b (y ∷ l) l) (sym (h refl)) refl

    -- putting in order keeps the elements that tie, in their order
    filter_in_order : (x : X) (xs : List X) → filter (ties less x) (in_order cmp xs) ≡ filter (ties less x) xs
    filter_in_order x [] = refl
    filter_in_order x (a ∷ xs) = filter_put x a (in_order cmp xs) ∙ ap (λ (l : List X). cond (ties less x a) (a ∷ l) l) (filter_in_order x xs)

    -- a stable sort gives the list put in order
    pub sorted_is_in_order : (xs ys : List X) → IsSortedBy less ys → IsStableBy less xs ys → ys ≡ in_order cmp xs
    sorted_is_in_order xs ys up stable = rises_once less o ys (in_order cmp xs) (rises_sorted less o ys up) (rises_in_order xs) (λ x. stable x ∙ sym (filter_in_order x xs))

-- a function that the two orders agree on can be applied before or after
module _ {X Y : Type 0} (f : X → Y) (c : X → X → Ordering) (d : Y → Y → Ordering) (same : (x y : X) → d (f x) (f y) ≡ c x y) where
  mapped_either : (b : Bool) (x y : X) (l : List X) (m : List Y) → m ≡ map f l → (ys : List X) → cond b (f y ∷ m) (f x ∷ (f y ∷ map f ys)) ≡ map f (cond b (y ∷ l) (x ∷ (y ∷ ys)))
  mapped_either true x y l m e ys = ap (λ (t : List Y). f y ∷ t) e
  mapped_either false x y l m e ys = refl

  put_map : (x : X) (xs : List X) → put d (f x) (map f xs) ≡ map f (put c x xs)
  put_map x [] = refl
  put_map x (y ∷ ys) =
      ap (λ (o : Ordering). cond (is_lt o) (f y ∷ put d (f x) (map f ys)) (f x ∷ (f y ∷ map f ys))) (same y x)
      ∙ mapped_either (is_lt (c y x)) x y (put c x ys) _ (put_map x ys) ys

  pub in_order_map : (xs : List X) → in_order d (map f xs) ≡ map f (in_order c xs)
  in_order_map [] = refl
  in_order_map (x ∷ xs) = ap (put d (f x)) (in_order_map xs) ∙ put_map x (in_order c xs)
