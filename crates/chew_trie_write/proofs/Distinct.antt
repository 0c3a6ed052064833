-- Sorted prefixes without repetition are the keys of the nodes.
use Rattle.std.proofs.Common.{◌≡◌, ◌⊎◌, ℕ, zero, suc, ◌+◌, ◌<◌, ◌≤◌, Bool, true, false, cond, List, [], ◌∷◌, ◌++◌, length, get_or, take, drop, refl, sym, ap, ◌∙◌, subst, inl, inr, ⊎_elim, Ordering, Less, Equal, Greater, is_lt, IsPermutation, IsSorted, Contains, arith, Bor, true≢false}
use Rattle.std.specs.List.{flat_map}
use Rattle.std.specs.Str.{bytes_eq}
use Rattle.std.proofs.lemmas.Bool.{cases_Bool, false_from_ne_true, cond-false, cond-true, cond_both}
use Rattle.std.specs.Cmp.{IsTotalOrder, IsStrictWeakOrder}
use Rattle.std.specs.Fn.{Called, ComparesAs}
use Rattle.std.specs.List.Sorted.{IsSortedBy}
use Rattle.std.proofs.lemmas.List.FromFn.{map-range_with_len_more}
use Rattle.std.proofs.lemmas.Fn.{always_returns_same}
use Rattle.std.proofs.lemmas.List.{append_assoc, drop_more, length_push, nil_from_length}
use Rattle.std.proofs.lemmas.List.Sorted.{Contains-permutation, IsPermutation-sym, ranks_by}
use denote.Param.Members.{Mut}
use Rattle.std.proofs.lemmas.Slice.Eq.{bytes_eq-Decides}
use Rattle.chew_spec_syllable.specs.Row.{Row}
use Rattle.chew_spec_dictionary.proofs.Order.{NoneBelow, Rises, rises_from}
use Rattle.chew_spec_image.specs.NodeKeys.{key_cmp, node_keys, prefixes_of}
use Rattle.chew_spec_image.proofs.Families.{less_from}
use Rattle.chew_spec_image.proofs.KeyOrder.{KeyBelow, below-length, key_chain, key_never, key_ties, key_total, key_turned}
use Rattle.chew_spec_image.proofs.NodeKeys.{in_order_from, in_order_to, keys_up}
use Rattle.chew_spec_image.proofs.Rising.{Above, In, Up, above_from, above_in, up_alike}
use Rattle.chew_trie_write.specs.Unlike.{prefixes_to, unlike}

-- a key that isn't below another and differs from it is above it
above_if : (last key : List ℕ) → is_lt (key_cmp key last) ≡ false → bytes_eq key last ≡ false → KeyBelow last key
above_if last key low differ = by (key_cmp key last) refl
  where
    by : (o : Ordering) → key_cmp key last ≡ o → KeyBelow last key
    by Less e = absurd (true≢false (sym (ap is_lt e) ∙ low))
    by Equal e = absurd (true≢false (sym ((bytes_eq-Decides key last).1 (key_ties key last e)) ∙ differ))
    by Greater e = key_turned key last e

-- what differs rises
unlike_up : (last : List ℕ) (keys : List (List ℕ)) → NoneBelow key_cmp last keys → Rises key_cmp keys → Above KeyBelow last (unlike last keys) × Up KeyBelow (unlike last keys)
unlike_up last [] n r = (tt, tt)
unlike_up last (key ∷ keys) n r =
    let same = unlike_up last keys n.1 r.1 in
    let other = unlike_up key keys r.0 r.1 in
    cond_both (bytes_eq key last) (unlike last keys) (key ∷ unlike key keys) (λ l. Above KeyBelow last l × Up KeyBelow l)
    (λ _. same)
    (λ differ.
    let above = above_if last key n.0 differ in
    ((above, above_from KeyBelow last (unlike key keys) (λ y i. key_chain last key y above (above_in KeyBelow key y (unlike key keys) other.0 i))), other))

-- and has all the keys
unlike_from : (z last : List ℕ) (keys : List (List ℕ)) → In z (unlike last keys) → In z keys
unlike_from z last [] i = i
unlike_from z last (key ∷ keys) i = ⊎_elim
    (λ (e : bytes_eq key last ≡ true). inr (unlike_from z last keys (subst (In z) (cond-true (bytes_eq key last) (unlike last keys) (key ∷ unlike key keys) e) i)))
    (λ (e : bytes_eq key last ≡ false). ⊎_elim (λ (h : z ≡ key). inl h) (λ (h : In z (unlike key keys)). inr (unlike_from z key keys h))
    (subst (In z) (cond-false (bytes_eq key last) (unlike last keys) (key ∷ unlike key keys) e) i))
    (cases_Bool (bytes_eq key last))

unlike_to : (z last : List ℕ) (keys : List (List ℕ)) → In z keys → (z ≡ last) ⊎ In z (unlike last keys)
unlike_to z last [] i = absurd i
unlike_to z last (key ∷ keys) i = ⊎_elim
    (λ (e : bytes_eq key last ≡ true). ⊎_elim
    (λ (h : z ≡ key). inl (h ∙ (bytes_eq-Decides key last).0 e))
    (λ (h : In z keys). ⊎_elim (λ (k : z ≡ last). inl k)
    (λ (k : In z (unlike last keys)). inr (subst (In z) (sym (cond-true (bytes_eq key last) (unlike last keys) (key ∷ unlike key keys) e)) k)) (unlike_to z last keys h)) i)
    (λ (e : bytes_eq key last ≡ false). inr (subst (In z) (sym (cond-false (bytes_eq key last) (unlike last keys) (key ∷ unlike key keys) e))
    (⊎_elim (λ (h : z ≡ key). inl h) (λ (h : In z keys). ⊎_elim (λ (k : z ≡ key). inl k) (λ (k : In z (unlike key keys)). inr k) (unlike_to z key keys h)) i)))
    (cases_Bool (bytes_eq key last))

-- elements by their places
in_from_contains : {X : Type 0} (x : X) (xs : List X) → Contains xs x → In x xs
in_from_contains x xs c = by xs c.0 c.1 c.2
  where
    by : (ys : List _) (k : ℕ) → k < length ys → get_or ys k x ≡ x → In x ys
    by [] k h e = absurd (omega arith)
    by (y ∷ ys) zero h e = inl (sym e)
    by (y ∷ ys) (suc k) h e = inr (by ys k (omega arith) e)

contains_from_in : {X : Type 0} (x : X) (xs : List X) → In x xs → Contains xs x
contains_from_in x [] i = absurd i
contains_from_in x (y ∷ ys) (inl e) = (0, omega arith, sym e)
contains_from_in x (y ∷ ys) (inr i) = let r = contains_from_in x ys i in let low = r.1 in (suc r.0, omega arith, r.2)

-- nothing is below the empty key
none_below_empty : (keys : List (List ℕ)) → NoneBelow key_cmp [] keys
none_below_empty [] = tt
none_below_empty (key ∷ keys) = (
  false_from_ne_true (is_lt (key_cmp key [])) (λ t.
      let below = less_from (key_cmp key []) t in
      let l = below-length key [] below in
      let e = nil_from_length key (omega arith) in
      let itself : KeyBelow [] [] = subst (λ (k : List ℕ). KeyBelow k []) e below in
      key_never [] [] itself itself),
  none_below_empty keys,
)

-- what a sort by a total order leaves is sorted by it
pub sorted_by : {F X : Type 0} {g : Mut F (Bor X × (Bor X × Unit {0})) Ordering} {f : F} (cmp : X → X → Ordering) → IsTotalOrder cmp → (ys : List X)
    → ((lt : X → X → Bool) → IsStrictWeakOrder lt → ComparesAs g lt f → IsSortedBy lt ys)
    → ((a : Bor X × (Bor X × Unit {0})) (r : Ordering) (f' : F) → Called g f a r f' → (r ≡ cmp a.0.now a.1.0.now) × (f' ≡ f)) → IsSorted cmp ys
sorted_by {X = X} {g = g} {f = f} cmp o ys up h =
    let weak = ranks_by o (λ (x : X). x) in
    let compares = always_returns_same g (λ a r. is_lt r ≡ is_lt (cmp a.0.now a.1.0.now)) f (λ a r f' k. (ap is_lt (h a r f' k).0, (h a r f' k).1)) in
    up (λ x y. is_lt (cmp x y)) weak compares

-- sorted prefixes without repetition
pub distinct_keys : (rows : List Row) (keys : List (List ℕ)) → IsPermutation (flat_map (λ row. prefixes_of row.key) rows) keys → IsSorted key_cmp keys → [] ∷ unlike [] keys ≡ node_keys rows
distinct_keys rows keys moved up =
    let all = flat_map (λ (row : Row). prefixes_of row.key) rows in
    let rises = rises_from key_cmp key_total keys up in
    let u = unlike_up [] keys (none_below_empty keys) rises in
    up_alike KeyBelow key_never ([] ∷ unlike [] keys) (node_keys rows) u (keys_up rows)
    (λ z i. in_order_to z ([] ∷ all) (⊎_elim (λ (e : z ≡ []). inl e)
    (λ (j : In z (unlike [] keys)). inr (in_from_contains z all (Contains-permutation keys all z (IsPermutation-sym all keys moved) (contains_from_in z keys (unlike_from z [] keys j))))) i))
    (λ z i. ⊎_elim (λ (e : z ≡ []). inl e)
    (λ (j : In z all). ⊎_elim (λ (e : z ≡ []). inl e) (λ (k : In z (unlike [] keys)). inr k)
    (unlike_to z [] keys (in_from_contains z keys (Contains-permutation all keys z moved (contains_from_in z all j)))))
    (in_order_from z ([] ∷ all) i))

-- one prefix more
pub prefixes_more : (codes : List ℕ) (n : ℕ) → prefixes_to codes (n + 1) ≡ prefixes_to codes n ++ take (n + 1) codes ∷ []
prefixes_more codes n = map-range_with_len_more (λ (k : ℕ). take k codes) 1 n (n + 1) (omega arith)

-- one key more
pub unlike_more : (keys kept after : List (List ℕ)) (last key : List ℕ) (i : ℕ) → i < length keys → key ≡ get_or keys i key
    → unlike [] keys ≡ kept ++ unlike last (drop i keys)
    → after ≡ cond (bytes_eq key last) kept (kept ++ key ∷ [])
    → unlike [] keys ≡ after ++ unlike key (drop (i + 1) keys)
unlike_more keys kept after last key i h at e pushed =
    let rest = drop (i + 1) keys in
    let more : drop i keys ≡ key ∷ rest = drop_more keys i key h ∙ ap (λ (k : List ℕ). k ∷ rest) (sym at) in
    e ∙ ap (λ (l : List (List ℕ)). kept ++ unlike last l) more ∙ ⊎_elim
    (λ (same : bytes_eq key last ≡ true).
    ap (λ (l : List (List ℕ)). kept ++ l) (cond-true (bytes_eq key last) (unlike last rest) (key ∷ unlike key rest) same)
    ∙ ap (λ (k : List ℕ). kept ++ unlike k rest) (sym ((bytes_eq-Decides key last).0 same))
    ∙ ap (λ (l : List (List ℕ)). l ++ unlike key rest) (sym (pushed ∙ cond-true (bytes_eq key last) kept (kept ++ key ∷ []) same)))
    (λ (differ : bytes_eq key last ≡ false).
    ap (λ (l : List (List ℕ)). kept ++ l) (cond-false (bytes_eq key last) (unlike last rest) (key ∷ unlike key rest) differ)
    ∙ sym (append_assoc kept (key ∷ []) (unlike key rest))
    ∙ ap (λ (l : List (List ℕ)). l ++ unlike key rest) (sym (pushed ∙ cond-false (bytes_eq key last) kept (kept ++ key ∷ []) differ)))
    (cases_Bool (bytes_eq key last))

-- which makes them at most one more
pub unlike_few : (kept after : List (List ℕ)) (last key : List ℕ) → after ≡ cond (bytes_eq key last) kept (kept ++ key ∷ []) → length after ≤ length kept + 1
unlike_few kept after last key e = let l = ap length e in cond_both (bytes_eq key last) kept (kept ++ key ∷ []) (λ (k : List (List ℕ)). length after ≡ length k → length after ≤ length kept + 1)
    (λ _ m. omega arith) (λ _ m. let p = length_push kept key in omega arith) l

-- a prefix pushed behind the shorter ones
pub pushed_more : (start now after : List (List ℕ)) (key prefix : List ℕ) (n : ℕ) → now ≡ start ++ prefixes_to key n → after ≡ now ++ prefix ∷ [] → prefix ≡ take (n + 1) key
    → after ≡ start ++ prefixes_to key (n + 1)
pushed_more start now after key prefix n had pushed is =
    pushed ∙ ap (λ (l : List (List ℕ)). l ++ prefix ∷ []) had ∙ ap (λ (k : List ℕ). (start ++ prefixes_to key n) ++ k ∷ []) is
    ∙ append_assoc start (prefixes_to key n) (take (n + 1) key ∷ []) ∙ ap (λ (l : List (List ℕ)). start ++ l) (sym (prefixes_more key n))

-- what is kept of the prefixes once they were sorted
pub kept_keys : (rows : List Row) (all sorted slice kept : List (List ℕ)) → all ≡ flat_map (λ row. prefixes_of row.key) rows → IsPermutation all sorted → IsSorted key_cmp sorted
    → slice ≡ sorted → kept ≡ unlike [] slice → [] ∷ kept ≡ node_keys rows
kept_keys rows all sorted slice kept a moved up same k =
    ap (λ (l : List (List ℕ)). [] ∷ l) (k ∙ ap (unlike []) same)
    ∙ distinct_keys rows sorted (subst (λ (l : List (List ℕ)). IsPermutation l sorted) a moved) up
