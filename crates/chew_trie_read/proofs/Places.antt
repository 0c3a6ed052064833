-- Where a node's children and its rows stand among all nodes and all rows.
use Rattle.std.proofs.Common.{◌≡◌, ◌⊎◌, ℕ, zero, suc, ◌+◌, ◌-◌, ◌<◌, ◌≤◌, true, List, [], ◌∷◌, ◌++◌, length, get_or, take, drop, refl, sym, ap, ◌∙◌, subst, inl, inr, ⊎_elim, sum_by, arith}
use Rattle.std.specs.List.{flat_map, list_all}
use Rattle.std.proofs.lemmas.Bool.{cases_lt, cases_order}
use Rattle.std.proofs.lemmas.List.Sums.{sum_by-cons}
use Rattle.std.proofs.lemmas.List.{drop-drop, drop_at, get_or-drop, get_or-take, length-append, length_push, take-take, take_all, take_at}
use Rattle.chew_spec_syllable.specs.Row.{Row, is_row}
use Rattle.chew_spec_dictionary.specs.Dictionary.{is_map}
use Rattle.chew_spec_dictionary.specs.System.{rows_under}
use Rattle.chew_spec_image.specs.Fields.{Node}
use Rattle.chew_spec_image.specs.Image.{child_count, row_count}
use Rattle.chew_spec_image.specs.NodeKeys.{is_child, last_code, node_keys, parent_of}
use Rattle.chew_spec_image.proofs.Bounds.{row_in}
use Rattle.chew_spec_image.proofs.Families.{children_in, children_joined, rows_joined}
use Rattle.chew_spec_image.proofs.ImageNodes.{total, total_children, total_rows}
use Rattle.chew_spec_image.proofs.KeyOrder.{KeyBelow, child_from, child_parts, key_never, last-push, length-parent, parent-push, parent_last, siblings_below}
use Rattle.chew_spec_image.proofs.NodeKeys.{keys_root, keys_up, parent_in}
use Rattle.chew_spec_image.proofs.Rising.{In, Up, above_in, in_filter, in_passing}
use Rattle.chew_trie_read.specs.Search.{IsNode, code_at, key_at}

-- an element by its place, and the place of an element
pub in_get : {X : Type 0} (xs : List X) (i : ℕ) (d : X) → i < length xs → In (get_or xs i d) xs
in_get [] i d h = absurd (omega arith)
in_get (x ∷ xs) zero d h = inl refl
in_get (x ∷ xs) (suc i) d h = inr (in_get xs i d (omega arith))

pub get_in : {X : Type 0} (x : X) (xs : List X) (d : X) → In x xs → (i : ℕ) × (i < length xs) × (get_or xs i d ≡ x)
get_in x [] d i = absurd i
get_in x (y ∷ xs) d (inl e) = (0, omega arith, sym e)
get_in x (y ∷ xs) d (inr i) = let r = get_in x xs d i in let h = r.1 in (suc r.0, omega arith, r.2)

-- keys that rise are at one place each
up_at : (keys : List (List ℕ)) (i j : ℕ) → Up KeyBelow keys → i < j → j < length keys → KeyBelow (get_or keys i []) (get_or keys j [])
up_at [] i j u l h = absurd (omega arith)
up_at (key ∷ keys) zero zero u l h = absurd (omega arith)
up_at (key ∷ keys) zero (suc j) u l h = above_in KeyBelow key (get_or keys j []) keys u.0 (in_get keys j [] (omega arith))
up_at (key ∷ keys) (suc i) zero u l h = absurd (omega arith)
up_at (key ∷ keys) (suc i) (suc j) u l h = up_at keys i j u.1 (omega arith) (omega arith)

pub same_place : (keys : List (List ℕ)) (i j : ℕ) → Up KeyBelow keys → i < length keys → j < length keys → get_or keys i [] ≡ get_or keys j [] → i ≡ j
same_place keys i j u hi hj e = ⊎_elim
    (λ (same : i ≡ j). same)
    (λ (o : (i < j) ⊎ (j < i)). ⊎_elim
    (λ (l : i < j). absurd (never (get_or keys i []) (get_or keys j []) e (up_at keys i j u l hj)))
    (λ (l : j < i). absurd (never (get_or keys j []) (get_or keys i []) (sym e) (up_at keys j i u l hi))) o)
    (cases_order i j)
  where
    never : (a b : List ℕ) → a ≡ b → KeyBelow a b → ⊥
    never a b same below = let back : KeyBelow a a = subst (KeyBelow a) (sym same) below in key_never a a back back

-- one of several parts that are joined
pub part_of : {X Y : Type 0} (f : X → List Y) (xs : List X) (i : ℕ) (d : X) → i < length xs
    → take (length (f (get_or xs i d))) (drop (length (flat_map f (take i xs))) (flat_map f xs)) ≡ f (get_or xs i d)
part_of f [] i d h = absurd (omega arith)
part_of f (x ∷ xs) zero d h = take_at (f x) (flat_map f xs) (length (f x)) refl
part_of f (x ∷ xs) (suc i) d h =
    ap (λ (k : ℕ). take (length (f (get_or xs i d))) (drop k (f x ++ flat_map f xs))) (length-append (f x) (flat_map f (take i xs)))
    ∙ ap (take (length (f (get_or xs i d)))) (sym (drop-drop (length (flat_map f (take i xs))) (length (f x)) (f x ++ flat_map f xs)) ∙ ap (drop (length (flat_map f (take i xs)))) (drop_at (f x) (flat_map f xs) (length (f x)) refl))
    ∙ part_of f xs i d (omega arith)

pub parts_within : {X Y : Type 0} (f : X → List Y) (xs : List X) (i : ℕ) (d : X) → i < length xs
    → length (flat_map f (take i xs)) + length (f (get_or xs i d)) ≤ length (flat_map f xs)
parts_within f [] i d h = absurd (omega arith)
parts_within f (x ∷ xs) zero d h = let a = length-append (f x) (flat_map f xs) in omega arith
parts_within f (x ∷ xs) (suc i) d h =
    let later = parts_within f xs i d (omega arith) in
    let a = length-append (f x) (flat_map f (take i xs)) in
    let b = length-append (f x) (flat_map f xs) in
    omega arith

-- sums over keys
pub total_sum : (count : List ℕ → ℕ) (keys : List (List ℕ)) → total count keys ≡ sum_by count keys
total_sum count [] = refl
total_sum count (key ∷ keys) = ap (λ (k : ℕ). count key + k) (total_sum count keys) ∙ sym (sum_by-cons count key keys)

-- the children of a node
children_at : (rows : List Row) (i : ℕ) (node : Node) → IsNode rows i node
    → take node.children (drop (node.first_child - 1) (drop 1 (node_keys rows))) ≡ children_in (node_keys rows) (key_at rows i)
children_at rows i node n =
    let keys = node_keys rows in
    let before = flat_map (children_in keys) (take i keys) in
    let mine = children_in keys (key_at rows i) in
    let t = total_children rows (take i keys) in
    let s = total_sum (child_count rows) (take i keys) in
    let first = n.first_child in
    let start : node.first_child - 1 ≡ length before = omega arith in
    ap (λ (k : ℕ). take k (drop (node.first_child - 1) (drop 1 keys))) n.children
    ∙ ap (λ (k : ℕ). take (length mine) (drop k (drop 1 keys))) start
    ∙ ap (λ (l : List (List ℕ)). take (length mine) (drop (length before) l)) (sym (children_joined rows))
    ∙ part_of (children_in keys) keys i [] n.within

child_at : (rows : List Row) (i m : ℕ) (node : Node) → IsNode rows i node → m < node.children
    → key_at rows (node.first_child + m) ≡ get_or (children_in (node_keys rows) (key_at rows i)) m []
child_at rows i m node n h =
    let keys = node_keys rows in
    let first = n.first_child in
    let at : node.first_child + m ≡ 1 + ((node.first_child - 1) + m) = omega arith in
    ap (λ (k : ℕ). get_or keys k []) at
    ∙ sym (get_or-drop 1 keys ((node.first_child - 1) + m) [])
    ∙ sym (get_or-drop (node.first_child - 1) (drop 1 keys) m [])
    ∙ sym (get_or-take node.children (drop (node.first_child - 1) (drop 1 keys)) m [] h)
    ∙ ap (λ (l : List (List ℕ)). get_or l m []) (children_at rows i node n)

-- their keys are the node's and their codes
pub child_is : (rows : List Row) (i m : ℕ) (node : Node) → IsNode rows i node → m < node.children
    → key_at rows (node.first_child + m) ≡ key_at rows i ++ code_at rows (node.first_child + m) ∷ []
child_is rows i m node n h =
    let keys = node_keys rows in
    let mine = children_in keys (key_at rows i) in
    let child = get_or mine m [] in
    let at = child_at rows i m node n h in
    let count = n.children in
    let f = in_filter (is_child (key_at rows i)) child keys (in_get mine m [] (omega arith)) in
    let c = child_parts (key_at rows i) child f.1 in
    at ∙ parent_last child c.0 ∙ ap (λ (k : List ℕ). k ++ last_code child ∷ []) c.1 ∙ ap (λ (k : List ℕ). key_at rows i ++ last_code k ∷ []) (sym at)

-- they are among the nodes
pub children_within : (rows : List Row) (i : ℕ) (node : Node) → IsNode rows i node → node.first_child + node.children ≤ length (node_keys rows)
children_within rows i node n =
    let keys = node_keys rows in
    let first = n.first_child in
    let t = total_children rows (take i keys) in
    let s = total_sum (child_count rows) (take i keys) in
    let within = parts_within (children_in keys) keys i [] n.within in
    let l = ap length (children_joined rows) in
    let root = ap length (keys_root rows) in
    let count = n.children in
    omega arith

-- and their codes rise
pub codes_rise : (rows : List Row) (i m k : ℕ) (node : Node) → IsNode rows i node → m < k → k < node.children
    → code_at rows (node.first_child + m) < code_at rows (node.first_child + k)
codes_rise rows i m k node n l h =
    let within = children_within rows i node n in
    let below = up_at (node_keys rows) (node.first_child + m) (node.first_child + k) (keys_up rows) (omega arith) (omega arith) in
    siblings_below (key_at rows i) (code_at rows (node.first_child + m)) (code_at rows (node.first_child + k))
    (subst (λ (x : List ℕ). KeyBelow x (key_at rows i ++ code_at rows (node.first_child + k) ∷ [])) (child_is rows i m node n (omega arith))
    (subst (KeyBelow (key_at rows (node.first_child + m))) (child_is rows i k node n h) below))

-- a key of one code more is that of a child
pub child_found : (rows : List Row) (i code : ℕ) (node : Node) → IsNode rows i node → In (key_at rows i ++ code ∷ []) (node_keys rows)
    → (m : ℕ) × (m < node.children) × (code_at rows (node.first_child + m) ≡ code)
child_found rows i code node n there =
    let keys = node_keys rows in
    let key = key_at rows i ++ code ∷ [] in
    let l = length_push (key_at rows i) code in
    let mine = children_in keys (key_at rows i) in
    let f = get_in key mine [] (in_passing (is_child (key_at rows i)) key keys there (child_from (key_at rows i) key (omega arith) (parent-push (key_at rows i) code))) in
    let count = n.children in
    let h : f.0 < node.children = let w = f.1 in omega arith in
    (f.0, h, ap last_code (child_at rows i f.0 node n h ∙ f.2) ∙ last-push (key_at rows i) code)

-- each front of a node's key is that of a node
pub front_in : (rows : List Row) (fuel : ℕ) (key : List ℕ) (k : ℕ) → length key ≤ k + fuel → In key (node_keys rows) → In (take k key) (node_keys rows)
front_in rows zero key k h there = subst (λ (l : List ℕ). In l (node_keys rows)) (sym (take_all k key (omega arith))) there
front_in rows (suc fuel) key k h there = ⊎_elim
    (λ (l : k < length key).
    let n = length-parent key in
    subst (λ (x : List ℕ). In x (node_keys rows)) (take-take k (length key - 1) key (omega arith))
    (front_in rows fuel (parent_of key) k (omega arith) (parent_in key rows there (omega arith))))
    (λ (l : length key ≤ k). subst (λ (x : List ℕ). In x (node_keys rows)) (sym (take_all k key l)) there)
    (cases_lt k (length key))

-- the rows of a node
pub rows_of_node : (rows : List Row) (i : ℕ) (node : Node) → is_map rows ≡ true → list_all is_row rows ≡ true → IsNode rows i node
    → (take node.rows (drop node.first_row rows) ≡ rows_under rows (key_at rows i)) × (node.first_row + node.rows ≤ length rows)
rows_of_node rows i node m each n =
    let keys = node_keys rows in
    let before = flat_map (rows_under rows) (take i keys) in
    let mine = rows_under rows (key_at rows i) in
    let joined = rows_joined rows m (λ row j. (row_in row rows each j).some) in
    let t = total_rows rows (take i keys) in
    let s = total_sum (row_count rows) (take i keys) in
    let first = n.first_row in
    let count = n.rows_here in
    let start : node.first_row ≡ length before = omega arith in
    let within = parts_within (rows_under rows) keys i [] n.within in
    let l = ap length joined in (
      ap (λ (k : ℕ). take k (drop node.first_row rows)) count
          ∙ ap (λ (k : ℕ). take (length mine) (drop k rows)) start
          ∙ ap (λ (x : List Row). take (length mine) (drop (length before) x)) (sym joined)
          ∙ part_of (rows_under rows) keys i [] n.within,
      omega arith,
    )
