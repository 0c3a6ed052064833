-- Lists put in order: sorted, the same elements, and the same list whatever the order before, where only
-- equal elements tie.
use Rattle.std.proofs.Common.{◌≡◌, ℕ, zero, suc, ◌+◌, ◌<◌, Bool, true, false, List, [], ◌∷◌, length, get_or, refl, ap, sym, ◌∙◌, cond, ap₂, Ordering, Less, Equal, Greater, is_lt, true≢false, add-one, arith, All, Contains, IsPermutation, IsSorted, sum_by}
use Rattle.std.specs.Bool.{⊤}
use Rattle.std.specs.Cmp.{IsTotalOrder}
use Rattle.std.specs.Ordering.{ordering_reverse}
use Rattle.std.proofs.lemmas.Bool.{cond_both, cond-false}
use Rattle.std.proofs.lemmas.Cmp.{tied_itself}
use Rattle.std.proofs.lemmas.List.Elements.{All-head, All-tail, All-contains_itself}
use Rattle.std.proofs.lemmas.List.Sums.{sum_by-cons}
use Rattle.std.proofs.lemmas.List.Sorted.{ranks_by, sorted_far, IsPermutation-refl, IsPermutation-cons, IsPermutation-trans, IsPermutation-middle, All-permutation, sum_by-IsPermutation}
use Rattle.chew_spec_dictionary.specs.Order.{put, in_order}

-- what a test adds to a count
abbrev counted : Bool → ℕ
counted b = cond b 1 0

-- lists of one type, by one comparison
module _ {X : Type 0} (cmp : X → X → Ordering) where
  -- an element put into a list is one more of its elements
  pub put_permutes : (x : X) (xs : List X) → IsPermutation (x ∷ xs) (put cmp x xs)
  put_permutes x [] = IsPermutation-refl (x ∷ [])
  put_permutes x (y ∷ ys) =
      let later = put_permutes x ys in
      cond_both (is_lt (cmp y x)) (y ∷ put cmp x ys) (x ∷ (y ∷ ys)) (IsPermutation (x ∷ (y ∷ ys)))
      (λ _. IsPermutation-trans _ _ _ (IsPermutation-middle (x ∷ []) y ys) (IsPermutation-cons y _ _ later))
      (λ _. IsPermutation-refl (x ∷ (y ∷ ys)))

  -- a list in order has the elements of the list
  pub order_permutes : (xs : List X) → IsPermutation xs (in_order cmp xs)
  order_permutes [] = IsPermutation-refl []
  order_permutes (x ∷ xs) = IsPermutation-trans _ _ _ (IsPermutation-cons x _ _ (order_permutes xs)) (put_permutes x (in_order cmp xs))

  -- none of these is below the element
  abbrev pub NoneBelow : X → List X → Type 0
  NoneBelow x [] = ⊤
  NoneBelow x (y ∷ ys) = (is_lt (cmp y x) ≡ false) × NoneBelow x ys

  -- none is below one before it
  abbrev pub Rises : List X → Type 0
  Rises [] = ⊤
  Rises (x ∷ xs) = NoneBelow x xs × Rises xs

  -- a list that rises is sorted
  pub sorted : (xs : List X) → Rises xs → IsSorted cmp xs
  sorted [] r k d z l = absurd (omega arith)
  sorted (x ∷ []) r k d z l = absurd (omega arith)
  sorted (x ∷ (y ∷ ys)) r zero d z l = r.0.0
  sorted (x ∷ (y ∷ ys)) r (suc k) d z l = let later = sorted (y ∷ ys) r.1 k d (omega arith) (omega arith) in rw add-one (rw add-one at later)

  -- how often an element below x stands in a list
  abbrev below : X → X → ℕ
  below x y = counted (is_lt (cmp y x))

  module _ (order : IsTotalOrder cmp) where
    -- an element that is above another is not below it
    pub not_both : (x y : X) → is_lt (cmp x y) ≡ true → is_lt (cmp y x) ≡ false
    not_both x y = (ranks_by order (λ z. z)).one_way x y

    -- where none of the elements is below y, and y is not below x, none is below x
    none_further : (x y : X) (ys : List X) → is_lt (cmp y x) ≡ false → NoneBelow y ys → NoneBelow x ys
    none_further x y [] l n = n
    none_further x y (z ∷ ys) l n = ((ranks_by order (λ w. w)).chain z y x n.0 l, none_further x y ys l n.1)

    -- an element that is not below x may be put among others that aren't
    none_put : (x y : X) (ys : List X) → is_lt (cmp y x) ≡ false → NoneBelow x ys → NoneBelow x (put cmp y ys)
    none_put x y [] l n = (l, n)
    none_put x y (z ∷ ys) l n =
        let later = none_put x y ys l n.1 in
        cond_both (is_lt (cmp z y)) (z ∷ put cmp y ys) (y ∷ (z ∷ ys)) (NoneBelow x) (λ _. (n.0, later)) (λ _. (l, n))

    -- an element put into a list that rises leaves one that rises
    put_rises : (x : X) (xs : List X) → Rises xs → Rises (put cmp x xs)
    put_rises x [] r = (r, r)
    put_rises x (y ∷ ys) r =
        let later = put_rises x ys r.1 in
        cond_both (is_lt (cmp y x)) (y ∷ put cmp x ys) (x ∷ (y ∷ ys)) Rises
        (λ t. (none_put y x ys (not_both y x t) r.0, later))
        (λ f. ((f, none_further x y ys f r.0), r))

    -- a list in order rises
    pub order_rises : (xs : List X) → Rises (in_order cmp xs)
    order_rises [] = tt
    order_rises (x ∷ xs) = put_rises x (in_order cmp xs) (order_rises xs)

    -- a list in order is sorted
    pub order_sorted : (xs : List X) → IsSorted cmp (in_order cmp xs)
    order_sorted xs = sorted (in_order cmp xs) (order_rises xs)

    -- where no place of a list has an element below x, none is below it
    none_from : (x : X) (ys : List X) → ((k : ℕ) (d : X) → k < length ys → is_lt (cmp (get_or ys k d) x) ≡ false) → NoneBelow x ys
    none_from x [] at = tt
    none_from x (y ∷ ys) at = (at 0 y (omega arith), none_from x ys (λ k d l. at (suc k) d (omega arith)))

    -- what is sorted behind its first element
    sorted_tail : (x : X) (xs : List X) → IsSorted cmp (x ∷ xs) → IsSorted cmp xs
    sorted_tail x xs up k d z l = let at = up (suc k) d (omega arith) (omega arith) in rw add-one (rw add-one at at)

    -- a sorted list rises
    pub rises_from : (xs : List X) → IsSorted cmp xs → Rises xs
    rises_from [] up = tt
    rises_from (x ∷ xs) up = (
      none_from x xs (λ k d l. sorted_far (λ y z. is_lt (cmp y z)) (ranks_by order (λ z. z)) (x ∷ xs) up 0 (suc k) d (omega arith) (omega arith)),
      rises_from xs (sorted_tail x xs up),
    )

    -- none of a list is below x, counted
    none_counted : (x : X) (ys : List X) → NoneBelow x ys → sum_by (below x) ys ≡ 0
    none_counted x [] n = refl
    none_counted x (y ∷ ys) n =
        let first : below x y ≡ 0 = cond-false (is_lt (cmp y x)) 1 0 n.0 in
        let rest = none_counted x ys n.1 in
        omega (arith, sum_by-cons (below x) y ys)

    -- what counts 0 is false
    zero_false : (b : Bool) → counted b ≡ 0 → b ≡ false
    zero_false true e = absurd (omega arith)
    zero_false false e = refl

    -- of two lists that rise and have equal elements, neither head is below the other
    head_not_below : (x y : X) (xs ys : List X) → Rises (y ∷ ys) → ((f : X → ℕ) → sum_by f (x ∷ xs) ≡ sum_by f (y ∷ ys)) → is_lt (cmp x y) ≡ false
    head_not_below x y xs ys r sums =
        let none = none_counted y (y ∷ ys) (ap is_lt (tied_itself order y), r.0) in
        let zero' : below y x ≡ 0 = omega (arith, sum_by-cons (below y) x xs, sums (below y)) in
        zero_false (is_lt (cmp x y)) zero'

    -- where neither is less, they tie
    pub tie_of : (o p : Ordering) → o ≡ ordering_reverse p → is_lt o ≡ false → is_lt p ≡ false → o ≡ Equal
    tie_of o Less e f g = absurd (true≢false g)
    tie_of o Equal e f g = e
    tie_of o Greater e f g = absurd (true≢false (sym (ap is_lt e) ∙ f))

    -- two lists that rise, have equal elements, and of whose elements only equal ones tie are equal
    pub rising_alike : (Q : X → Type 0) → ((x y : X) → Q x → Q y → cmp x y ≡ Equal → x ≡ y) → (xs ys : List X) → Rises xs → Rises ys → All Q xs → All Q ys → ((f : X → ℕ) → sum_by f xs ≡ sum_by f ys) → xs ≡ ys
    rising_alike Q ties [] [] rx ry qx qy sums = refl
    rising_alike Q ties [] (y ∷ ys) rx ry qx qy sums = absurd (omega (arith, sums (λ _. 1), sum_by-cons (λ _. 1) y ys))
    rising_alike Q ties (x ∷ xs) [] rx ry qx qy sums = absurd (omega (arith, sums (λ _. 1), sum_by-cons (λ _. 1) x xs))
    rising_alike Q ties (x ∷ xs) (y ∷ ys) rx ry qx qy sums =
        let tied = tie_of (cmp x y) (cmp y x) (order.antisymm x y) (head_not_below x y xs ys ry sums) (head_not_below y x ys xs rx (λ f. sym (sums f))) in
        let heads = ties x y (All-head Q x xs qx) (All-head Q y ys qy) tied in
        let rest = rising_alike Q ties xs ys rx.1 ry.1 (All-tail Q x xs qx) (All-tail Q y ys qy) (λ f. rest_sums f heads (sum_by-cons f x xs) (sum_by-cons f y ys) (sums f)) in
        ap₂ (λ (z : X) (zs : List X). z ∷ zs) heads rest
      where
        rest_sums : (f : X → ℕ) → x ≡ y → sum_by f (x ∷ xs) ≡ f x + sum_by f xs → sum_by f (y ∷ ys) ≡ f y + sum_by f ys → sum_by f (x ∷ xs) ≡ sum_by f (y ∷ ys) → sum_by f xs ≡ sum_by f ys
        rest_sums f h a b e = let g = ap f h in omega arith

    -- of a list's elements only equal ones tie
    abbrev pub TiesAreEqual : List X → Type 0
    TiesAreEqual xs = (x y : X) → Contains xs x → Contains xs y → cmp x y ≡ Equal → x ≡ y

    -- what rises and has the elements of a list, where only equal ones tie, is that list in order
    in_order_is : (xs ys : List X) → TiesAreEqual xs → IsPermutation xs ys → Rises ys → in_order cmp xs ≡ ys
    in_order_is xs ys ties moved r = rising_alike (Contains xs) ties (in_order cmp xs) ys (order_rises xs) r
        (All-permutation (Contains xs) xs (in_order cmp xs) (order_permutes xs) (All-contains_itself xs))
        (All-permutation (Contains xs) xs ys moved (All-contains_itself xs))
        (λ f. sum_by-IsPermutation f xs (in_order cmp xs) (order_permutes xs) ∙ sym (sum_by-IsPermutation f xs ys moved))

    -- a sorted list of a list's elements, where only equal ones tie, is that list in order
    pub sorted_is_order : (xs ys : List X) → TiesAreEqual xs → IsPermutation xs ys → IsSorted cmp ys → in_order cmp xs ≡ ys
    sorted_is_order xs ys ties moved up = in_order_is xs ys ties moved (rises_from ys up)

    -- where only equal elements tie, lists of one another's elements are one list in order
    pub orders_alike : (xs ys : List X) → TiesAreEqual xs → IsPermutation xs ys → in_order cmp xs ≡ in_order cmp ys
    orders_alike xs ys ties moved = in_order_is xs (in_order cmp ys) ties (IsPermutation-trans _ _ _ moved (order_permutes ys)) (order_rises ys)
