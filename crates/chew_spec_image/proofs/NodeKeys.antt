-- The keys of the nodes of rows: they rise, and are the empty list and all prefixes of the rows' keys.
use Rattle.std.proofs.Common.{◌≡◌, ◌⊎◌, ℕ, zero, suc, ◌+◌, ◌-◌, ◌<◌, ◌≤◌, List, [], ◌∷◌, length, take, drop, map, refl, sym, ap, ◌∙◌, subst, inl, inr, ⊎_elim, arith}
use Rattle.std.specs.List.{flat_map, range_with_len}
use Rattle.std.proofs.lemmas.Bool.{cases_lt}
use Rattle.std.proofs.lemmas.List.{length-take-le, take-take, take_all}
use Rattle.chew_spec_syllable.specs.Row.{Row}
use Rattle.chew_spec_dictionary.proofs.ImageOrder.{by_cases}
use Rattle.chew_spec_image.specs.NodeKeys.{in_key_order, key_cmp, node_keys, parent_of, prefixes_of, with_key}
use Rattle.chew_spec_image.proofs.KeyOrder.{KeyBelow, below_shorter, key_chain, key_never, key_ties, key_turned}
use Rattle.chew_spec_image.proofs.Rising.{In, Up, above_from, above_in, in_flat, in_part}

-- the elements of keys to which one is put
in_with_key : (x key : List ℕ) (keys : List (List ℕ)) → In x (with_key key keys) → (x ≡ key) ⊎ In x keys
in_with_key x key [] = λ i. i
in_with_key x key (first ∷ rest) =
    let later = in_with_key x key rest in
    by_cases (key_cmp key first) (key ∷ (first ∷ rest)) (first ∷ rest) (first ∷ with_key key rest) (λ l. In x l → (x ≡ key) ⊎ In x (first ∷ rest))
    (λ e i. i)
    (λ e i. inr i)
    (λ e i. ⊎_elim (λ (h : x ≡ first). inr (inl h)) (λ (h : In x (with_key key rest)). ⊎_elim (λ (k : x ≡ key). inl k) (λ (r : In x rest). inr (inr r)) (later h)) i)

key_in : (key : List ℕ) (keys : List (List ℕ)) → In key (with_key key keys)
key_in key [] = inl refl
key_in key (first ∷ rest) =
    let later = key_in key rest in
    by_cases (key_cmp key first) (key ∷ (first ∷ rest)) (first ∷ rest) (first ∷ with_key key rest) (In key)
    (λ e. inl refl) (λ e. inl (key_ties key first e)) (λ e. inr later)

still_in : (x key : List ℕ) (keys : List (List ℕ)) → In x keys → In x (with_key key keys)
still_in x key [] i = absurd i
still_in x key (first ∷ rest) i =
    let later = still_in x key rest in
    by_cases (key_cmp key first) (key ∷ (first ∷ rest)) (first ∷ rest) (first ∷ with_key key rest) (In x)
    (λ e. inr i) (λ e. i) (λ e. ⊎_elim (λ (h : x ≡ first). inl h) (λ (r : In x rest). inr (later r)) i)

-- they rise where the keys did
up_with_key : (key : List ℕ) (keys : List (List ℕ)) → Up KeyBelow keys → Up KeyBelow (with_key key keys)
up_with_key key [] u = (tt, tt)
up_with_key key (first ∷ rest) u =
    let later = up_with_key key rest u.1 in
    by_cases (key_cmp key first) (key ∷ (first ∷ rest)) (first ∷ rest) (first ∷ with_key key rest) (Up KeyBelow)
    (λ e. ((e, above_from KeyBelow key rest (λ y i. key_chain key first y e (above_in KeyBelow first y rest u.0 i))), u))
    (λ e. u)
    (λ e. (
      above_from KeyBelow first (with_key key rest) (λ y i. ⊎_elim
          (λ (h : y ≡ key). subst (KeyBelow first) (sym h) (key_turned key first e))
          (λ (r : In y rest). above_in KeyBelow first y rest u.0 r) (in_with_key y key rest i)),
      later,
    ))

-- keys in order
up_in_order : (keys : List (List ℕ)) → Up KeyBelow (in_key_order keys)
up_in_order [] = tt
up_in_order (key ∷ keys) = up_with_key key (in_key_order keys) (up_in_order keys)

pub in_order_from : (x : List ℕ) (keys : List (List ℕ)) → In x (in_key_order keys) → In x keys
in_order_from x [] i = i
in_order_from x (key ∷ keys) i = ⊎_elim (λ (h : x ≡ key). inl h) (λ (r : In x (in_key_order keys)). inr (in_order_from x keys r)) (in_with_key x key (in_key_order keys) i)

pub in_order_to : (x : List ℕ) (keys : List (List ℕ)) → In x keys → In x (in_key_order keys)
in_order_to x [] i = i
in_order_to x (key ∷ keys) (inl h) = subst (λ z. In z (in_key_order (key ∷ keys))) (sym h) (key_in key (in_key_order keys))
in_order_to x (key ∷ keys) (inr i) = still_in x key (in_key_order keys) (in_order_to x keys i)

-- the values of a function over a range
in_range : {X : Type 0} (f : ℕ → X) (x : X) (a n : ℕ) → In x (map f (range_with_len a n)) → (k : ℕ) × (a ≤ k) × (k < a + n) × (x ≡ f k)
in_range f x a zero i = absurd i
in_range f x a (suc n) (inl e) = (a, omega arith, omega arith, e)
in_range f x a (suc n) (inr i) = let r = in_range f x (a + 1) n i in let low = r.1 in let high = r.2 in (r.0, omega arith, omega arith, r.3)

range_in : {X : Type 0} (f : ℕ → X) (k a n : ℕ) → a ≤ k → k < a + n → In (f k) (map f (range_with_len a n))
range_in f k a zero l h = absurd (omega arith)
range_in f k a (suc n) l h = ⊎_elim (λ (m : a < k). inr (range_in f k (a + 1) n (omega arith) (omega arith))) (λ (m : k ≤ a). inl (let e : k ≡ a = omega arith in ap f e)) (cases_lt a k)

-- a prefix of a key that isn't empty
pub record IsPrefix (prefix key : List ℕ) : Type 0 where
  pub len : ℕ
  pub some : 1 ≤ len
  pub within : len ≤ length key
  pub taken : prefix ≡ take len key

prefix_from : (x key : List ℕ) → In x (prefixes_of key) → IsPrefix x key
prefix_from x key i = let r = in_range (λ n. take n key) x 1 (length key) i in let low = r.1 in let high = r.2 in
    record { len = r.0; some = omega arith; within = omega arith; taken = r.3 }

prefix_to : (x key : List ℕ) → IsPrefix x key → In x (prefixes_of key)
prefix_to x key p = let low = p.some in let high = p.within in subst (λ z. In z (prefixes_of key)) (sym p.taken) (range_in (λ n. take n key) p.len 1 (length key) (omega arith) (omega arith))

-- the keys of the nodes rise
pub keys_up : (rows : List Row) → Up KeyBelow (node_keys rows)
keys_up rows = up_in_order ([] ∷ flat_map (λ row. prefixes_of row.key) rows)

-- each is empty or a prefix of a row's key
pub key_from : (x : List ℕ) (rows : List Row) → In x (node_keys rows) → (x ≡ []) ⊎ ((row : Row) × In row rows × IsPrefix x row.key)
key_from x rows i = ⊎_elim
    (λ (e : x ≡ []). inl e)
    (λ (h : In x (flat_map (λ (row : Row). prefixes_of row.key) rows)).
    let r = in_flat (λ (row : Row). prefixes_of row.key) x rows h in inr (r.0, r.1, prefix_from x r.0.key r.2))
    (in_order_from x ([] ∷ flat_map (λ row. prefixes_of row.key) rows) i)

-- and all of these are there
pub empty_in : (rows : List Row) → In [] (node_keys rows)
empty_in rows = in_order_to [] ([] ∷ flat_map (λ row. prefixes_of row.key) rows) (inl refl)

pub prefix_in : (x : List ℕ) (row : Row) (rows : List Row) → In row rows → IsPrefix x row.key → In x (node_keys rows)
prefix_in x row rows i p = in_order_to x ([] ∷ flat_map (λ row. prefixes_of row.key) rows)
    (inr (in_part (λ (r : Row). prefixes_of r.key) x row rows i (prefix_to x row.key p)))

-- the keys of the rows are there
pub whole_in : (row : Row) (rows : List Row) → In row rows → 1 ≤ length row.key → In row.key (node_keys rows)
whole_in row rows i some = prefix_in row.key row rows i (record { len = length row.key; some = some; within = omega arith; taken = sym (take_all (length row.key) row.key (omega arith)) })

-- and the parent of each
pub parent_in : (x : List ℕ) (rows : List Row) → In x (node_keys rows) → 0 < length x → In (parent_of x) (node_keys rows)
parent_in x rows i h = ⊎_elim
    (λ (e : x ≡ []). absurd (let l : length x ≡ 0 = ap length e in omega arith))
    (λ (r : (row : Row) × In row rows × IsPrefix x row.key). by r.0 r.1 r.2)
    (key_from x rows i)
  where
    by : (row : Row) → In row rows → IsPrefix x row.key → In (parent_of x) (node_keys rows)
    by row j p =
        let some = p.some in
        let within = p.within in
        let l : length x ≡ p.len = ap length p.taken ∙ length-take-le p.len row.key within in
        let n : length x - 1 ≡ p.len - 1 = omega arith in
        let cut : parent_of x ≡ take (p.len - 1) row.key = ap (λ (k : ℕ). take k x) n ∙ ap (take (p.len - 1)) p.taken ∙ take-take (p.len - 1) p.len row.key (omega arith) in
        ⊎_elim
        (λ (m : 1 < p.len). prefix_in (parent_of x) row rows j (record { len = p.len - 1; some = omega arith; within = omega arith; taken = cut }))
        (λ (m : p.len ≤ 1). let z : p.len - 1 ≡ 0 = omega arith in subst (λ k. In k (node_keys rows)) (sym (cut ∙ ap (λ (k : ℕ). take k row.key) z)) (empty_in rows))
        (cases_lt 1 p.len)

-- the first is the empty one
pub keys_root : (rows : List Row) → node_keys rows ≡ [] ∷ drop 1 (node_keys rows)
keys_root rows = by (node_keys rows) (keys_up rows) (empty_in rows)
  where
    by : (keys : List (List ℕ)) → Up KeyBelow keys → In [] keys → keys ≡ [] ∷ drop 1 keys
    by [] u i = absurd i
    by (first ∷ rest) u (inl e) = ap (λ (k : List ℕ). k ∷ rest) (sym e)
    by ([] ∷ rest) u (inr i) = refl
    by ((c ∷ first) ∷ rest) u (inr i) = absurd (key_never (c ∷ first) [] (above_in KeyBelow (c ∷ first) [] rest u.0 i) (below_shorter [] (c ∷ first) (omega arith)))
