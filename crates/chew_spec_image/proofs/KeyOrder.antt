-- The order of keys, and the keys of nodes: they rise, and are the empty list and all prefixes of the rows' keys.
use Rattle.std.proofs.Common.{◌≡◌, ◌⊎◌, ℕ, ◌+◌, ◌-◌, ◌<◌, ◌≤◌, true, ltb, List, [], ◌∷◌, ◌++◌, length, get_or, take, refl, sym, ap, ◌∙◌, subst, inl, inr, ⊎_elim, Ordering, Less, Equal, Greater, nat_cmp, arith}
use Rattle.std.specs.Cmp.{IsTotalOrder}
use Rattle.std.specs.Cmp.Lexicographic.{slice_cmp}
use Rattle.std.specs.Ordering.{MatchOrdering, ordering_reverse, ordering_then}
use Rattle.std.specs.Str.{bytes_eq}
use Rattle.std.proofs.lemmas.Bool.{and_from, and_parts, cases_lt, lt-ltb, ltb-true}
use Rattle.std.proofs.lemmas.Cmp.{nat_cmp_total, nat_list_cmp_total, on_total, ranked, tied_itself}
use Rattle.std.proofs.lemmas.List.{get_or_at, length-take-le, length_push, take_all, take_at, take_more}
use Rattle.std.proofs.lemmas.Map.Lookups.{exact_bytes}
use Rattle.std.proofs.lemmas.Slice.Eq.{bytes_eq-Decides}
use Rattle.chew_spec_dictionary.proofs.ImageOrder.{then_assoc}
use Rattle.chew_spec_image.specs.NodeKeys.{is_child, key_cmp, last_code, parent_of}

-- one key is below another
abbrev pub KeyBelow : List ℕ → List ℕ → Type 0
KeyBelow key other = key_cmp key other ≡ Less

pub key_total : IsTotalOrder key_cmp
key_total = on_total (λ (key : List ℕ). length key ∷ key) nat_list_cmp_total

-- never both ways
pub key_never : (key other : List ℕ) → KeyBelow key other → KeyBelow other key → ⊥
key_never key other a b = let e : Less ≡ Greater = sym b ∙ key_total.antisymm other key ∙ ap ordering_reverse a in absurd (less_greater e)
  where
    less_greater : Less ≡ Greater → ⊥
    less_greater e = cc

-- keys that tie are equal
pub key_ties : (key other : List ℕ) → key_cmp key other ≡ Equal → key ≡ other
key_ties key other e = let same : length key ∷ key ≡ length other ∷ other = exact_bytes _ _ e in let tails : key ≡ other = cc in tails

-- and one of two is below the other where they don't
pub key_turned : (key other : List ℕ) → key_cmp key other ≡ Greater → KeyBelow other key
key_turned key other e = key_total.antisymm other key ∙ ap ordering_reverse e

-- below and below is below
pub key_chain : (a b c : List ℕ) → KeyBelow a b → KeyBelow b c → KeyBelow a c
key_chain a b c x y = key_total.trans a b c x y

-- a smaller number compares as less
pub nat_less : (m n : ℕ) → m < n → nat_cmp m n ≡ Less
nat_less m n h = by (nat_cmp m n) (ranked m n (nat_cmp m n) refl)
  where
    by : (o : Ordering) → MatchOrdering o (m < n) (m ≡ n) (n < m) → o ≡ Less
    by Less r = refl
    by Equal r = absurd (omega arith)
    by Greater r = absurd (omega arith)

-- and what compares as less is smaller, or as long and below by the codes
below_cases : (a b : List ℕ) → KeyBelow a b → (length a < length b) ⊎ ((length a ≡ length b) × (slice_cmp nat_cmp a b ≡ Less))
below_cases a b e = by (nat_cmp (length a) (length b)) (ranked (length a) (length b) (nat_cmp (length a) (length b)) refl) e
  where
    by : (o : Ordering) → MatchOrdering o (length a < length b) (length a ≡ length b) (length b < length a) → ordering_then o (slice_cmp nat_cmp a b) ≡ Less
        → (length a < length b) ⊎ ((length a ≡ length b) × (slice_cmp nat_cmp a b ≡ Less))
    by Less r e = inl r
    by Equal r e = inr (r, e)
    by Greater r e = absurd (no e)
      where
        no : Greater ≡ Less → ⊥
        no e = cc

pub below_shorter : (a b : List ℕ) → length a < length b → KeyBelow a b
below_shorter a b h = ap (λ (o : Ordering). ordering_then o (slice_cmp nat_cmp a b)) (nat_less (length a) (length b) h)

below_codes : (a b : List ℕ) → length a ≡ length b → slice_cmp nat_cmp a b ≡ Less → KeyBelow a b
below_codes a b l e = ap (λ (n : ℕ). ordering_then (nat_cmp (length a) n) (slice_cmp nat_cmp a b)) (sym l)
    ∙ ap (λ (o : Ordering). ordering_then o (slice_cmp nat_cmp a b)) (tied_itself nat_cmp_total (length a)) ∙ e

-- a key is at most as long as one that it is below
pub below-length : (a b : List ℕ) → KeyBelow a b → length a ≤ length b
below-length a b e = ⊎_elim (λ (l : length a < length b). omega arith) (λ (r : (length a ≡ length b) × (slice_cmp nat_cmp a b ≡ Less)). let l = r.0 in omega arith) (below_cases a b e)

-- codes at the end of keys of one length
codes_then : (a b : List ℕ) (x y : ℕ) → length a ≡ length b → slice_cmp nat_cmp (a ++ x ∷ []) (b ++ y ∷ []) ≡ ordering_then (slice_cmp nat_cmp a b) (nat_cmp x y)
codes_then [] [] x y l = then_equal (nat_cmp x y)
  where
    then_equal : (o : Ordering) → ordering_then o Equal ≡ o
    then_equal Less = refl
    then_equal Equal = refl
    then_equal Greater = refl
codes_then [] (d ∷ b) x y l = absurd (omega arith)
codes_then (c ∷ a) [] x y l = absurd (omega arith)
codes_then (c ∷ a) (d ∷ b) x y l = ap (ordering_then (nat_cmp c d)) (codes_then a b x y (omega arith)) ∙ sym (then_assoc (nat_cmp c d) (slice_cmp nat_cmp a b) (nat_cmp x y))

-- children of a key that is below another are below the other's children
pub below_children : (a b : List ℕ) (x y : ℕ) → KeyBelow a b → KeyBelow (a ++ x ∷ []) (b ++ y ∷ [])
below_children a b x y e = ⊎_elim
    (λ (l : length a < length b). below_shorter (a ++ x ∷ []) (b ++ y ∷ []) (let la = length_push a x in let lb = length_push b y in omega arith))
    (λ (r : (length a ≡ length b) × (slice_cmp nat_cmp a b ≡ Less)).
    below_codes (a ++ x ∷ []) (b ++ y ∷ []) (let l = r.0 in let la = length_push a x in let lb = length_push b y in omega arith)
    (codes_then a b x y r.0 ∙ ap (λ (o : Ordering). ordering_then o (nat_cmp x y)) r.1))
    (below_cases a b e)

-- those of one key are in the order of their codes
pub below_siblings : (a : List ℕ) (x y : ℕ) → x < y → KeyBelow (a ++ x ∷ []) (a ++ y ∷ [])
below_siblings a x y h = below_codes (a ++ x ∷ []) (a ++ y ∷ []) (let la = length_push a x in let lb = length_push a y in omega arith)
    (codes_then a a x y refl ∙ ap (λ (o : Ordering). ordering_then o (nat_cmp x y)) (tied_itself nat_list_cmp_total a) ∙ nat_less x y h)

pub siblings_below : (a : List ℕ) (x y : ℕ) → KeyBelow (a ++ x ∷ []) (a ++ y ∷ []) → x < y
siblings_below a x y e = ⊎_elim (λ (l : x < y). l) (λ (l : y ≤ x). absurd (back l)) (cases_lt x y)
  where
    same : y ≡ x → ⊥
    same l = key_never (a ++ x ∷ []) (a ++ y ∷ []) e (subst (λ (z : ℕ). key_cmp (a ++ z ∷ []) (a ++ x ∷ []) ≡ Less) (sym l) (subst (λ (z : ℕ). key_cmp (a ++ x ∷ []) (a ++ z ∷ []) ≡ Less) l e))

    back : y ≤ x → ⊥
    back l = ⊎_elim (λ (m : y < x). key_never (a ++ x ∷ []) (a ++ y ∷ []) e (below_siblings a y x m)) (λ (m : x ≤ y). same (omega arith)) (cases_lt y x)

-- a key with a code behind it: its parent and its last code
pub parent-push : (key : List ℕ) (code : ℕ) → parent_of (key ++ code ∷ []) ≡ key
parent-push key code = let l = length_push key code in let n : length (key ++ code ∷ []) - 1 ≡ length key = omega arith in
    ap (λ (k : ℕ). take k (key ++ code ∷ [])) n ∙ take_at key (code ∷ []) (length key) refl

pub last-push : (key : List ℕ) (code : ℕ) → last_code (key ++ code ∷ []) ≡ code
last-push key code = let l = length_push key code in let n : length (key ++ code ∷ []) - 1 ≡ length key = omega arith in
    ap (λ (k : ℕ). get_or (key ++ code ∷ []) k 0) n ∙ get_or_at key code [] 0 (length key) refl

pub parent_last : (key : List ℕ) → 0 < length key → key ≡ parent_of key ++ last_code key ∷ []
parent_last key h =
    let n : length key - 1 + 1 ≡ length key = omega arith in
    sym (take_all (length key) key (omega arith)) ∙ ap (λ (k : ℕ). take k key) (sym n) ∙ take_more key (length key - 1) 0 (omega arith)

pub length-parent : (key : List ℕ) → length (parent_of key) ≡ length key - 1
length-parent key = length-take-le (length key - 1) key (omega arith)

pub below_parent : (key : List ℕ) → 0 < length key → KeyBelow (parent_of key) key
below_parent key h = below_shorter (parent_of key) key (let l = length-parent key in omega arith)

-- what a child is
pub child_parts : (parent key : List ℕ) → is_child parent key ≡ true → (0 < length key) × (parent_of key ≡ parent)
child_parts parent key e =
    let both = and_parts (ltb 0 (length key)) (bytes_eq (parent_of key) parent) e in
    (ltb-true 0 (length key) both.0, (bytes_eq-Decides (parent_of key) parent).0 both.1)

pub child_from : (parent key : List ℕ) → 0 < length key → parent_of key ≡ parent → is_child parent key ≡ true
child_from parent key h e = and_from _ _ (lt-ltb 0 (length key) h) ((bytes_eq-Decides (parent_of key) parent).1 e)
