-- The nodes of the rows that were read are the nodes from which they were read.
use Rattle.std.proofs.Common.{◌≡◌, ℕ, zero, suc, ◌+◌, ◌-◌, ◌<◌, ◌≤◌, false, List, [], ◌∷◌, length, map, take, replicate, refl, sym, ap, ◌∙◌, subst, inl, inr, ⊎_elim, arith}
use Rattle.std.specs.List.{filter}
use Rattle.std.proofs.lemmas.Bool.{cases_lt}
use Rattle.std.proofs.lemmas.List.{length-take-le, map-append, take-take, take_all}
use Rattle.chew_spec_syllable.specs.Row.{Row}
use Rattle.chew_spec_image.specs.Fields.{Node}
use Rattle.chew_spec_image.specs.Image.{child_count, row_count}
use Rattle.chew_spec_image.specs.NodeKeys.{is_child, node_keys, parent_of}
use Rattle.chew_spec_image.specs.ReadNodes.{Due, due_under}
use Rattle.chew_spec_image.proofs.Counting.{At, children_counted, due_keys, in_at, rows_counted, times, times_at}
use Rattle.chew_spec_image.proofs.KeyOrder.{KeyBelow, key_never, length-parent}
use Rattle.chew_spec_image.proofs.NodeKeys.{IsPrefix, empty_in, key_from, keys_up, prefix_in}
use Rattle.chew_spec_image.proofs.ReadKeys.{due_by}
use Rattle.chew_spec_image.proofs.ReadTree.{Counted, Tree}
use Rattle.chew_spec_image.proofs.Rising.{In, in_append, in_left, in_right, up_alike}

-- the key of what is due stands among the keys, at a node of which some is due
in_replicate : (x : List ℕ) (n : ℕ) (d : Due) → In x (due_keys (replicate n d)) → x ≡ d.key
in_replicate x zero d i = absurd i
in_replicate x (suc n) d (inl e) = e
in_replicate x (suc n) d (inr i) = in_replicate x n d i

pub in_under : (x key : List ℕ) (n : ℕ) → In x (due_keys (due_under key n)) → x ≡ key
in_under x key zero i = absurd i
in_under x key (suc n) (inl e) = e
in_under x key (suc n) (inr i) = in_replicate x n (record { key = key; first = false }) i

pub due_at : (count : Node → ℕ) (x : List ℕ) (keys : List (List ℕ)) (nodes : List Node) → In x (due_keys (due_by count keys nodes)) → In x keys
due_at count x [] nodes i = absurd i
due_at count x (key ∷ keys) [] i = absurd i
due_at count x (key ∷ keys) (node ∷ nodes) i = ⊎_elim
    (λ (h : In x (due_keys (due_under key (count node)))). inl (in_under x key (count node) h))
    (λ (h : In x (due_keys (due_by count keys nodes))). inr (due_at count x keys nodes h))
    (in_append x (due_keys (due_under key (count node))) (due_keys (due_by count keys nodes)) (subst (In x) (map-append (λ (d : Due). d.key) (due_under key (count node)) (due_by count keys nodes)) i))

at_due : (count : Node → ℕ) (x : List ℕ) (one : Node) (keys : List (List ℕ)) (nodes : List Node) → At x one keys nodes → 0 < count one → In x (due_keys (due_by count keys nodes))
at_due count x one [] nodes a h = absurd a
at_due count x one (key ∷ keys) [] a h = absurd a
at_due count x one (key ∷ keys) (node ∷ nodes) a h =
    subst (In x) (sym (map-append (λ (d : Due). d.key) (due_under key (count node)) (due_by count keys nodes)))
    (⊎_elim
    (λ (e : (x ≡ key) × (one ≡ node)). in_left x (due_keys (due_under key (count node))) (due_keys (due_by count keys nodes))
    (subst (λ (k : List ℕ). In k (due_keys (due_under key (count node)))) (sym e.0) (some key (count node) (subst (λ (n : Node). 0 < count n) e.1 h))))
    (λ (b : At x one keys nodes). in_right x (due_keys (due_under key (count node))) (due_keys (due_by count keys nodes)) (at_due count x one keys nodes b h))
    a)
  where
    some : (k : List ℕ) (n : ℕ) → 0 < n → In k (due_keys (due_under k n))
    some k zero h = absurd (omega arith)
    some k (suc n) h = inl refl

-- an element of a map's values
in_map : {X : Type 0} (f : X → List ℕ) (x : List ℕ) (xs : List X) → In x (map f xs) → (y : X) × In y xs × (x ≡ f y)
in_map f x [] i = absurd i
in_map f x (y ∷ ys) (inl e) = (y, inl refl, e)
in_map f x (y ∷ ys) (inr i) = let r = in_map f x ys i in (r.0, inr r.1, r.2)

map_in : {X : Type 0} (f : X → List ℕ) (y : X) (xs : List X) → In y xs → In (f y) (map f xs)
map_in f y [] i = absurd i
map_in f y (x ∷ xs) (inl e) = inl (ap f e)
map_in f y (x ∷ xs) (inr i) = inr (map_in f y xs i)

-- the rows that were read from a tree
pub record Reads (root : Node) (others : List Node) (due : List Due) (keys : List (List ℕ)) (rows : List Row) : Type 0 where
  pub tree : Tree root others due keys
  pub row_keys : map (λ (row : Row). row.key) rows ≡ due_keys due

module _ (root : Node) (others : List Node) (due : List Due) (keys : List (List ℕ)) (rows : List Row) (reads : Reads root others due keys rows) where
  -- the key of a row is that of a node
  row_key : (row : Row) → In row rows → In row.key ([] ∷ keys)
  row_key row i = due_at (λ (n : Node). n.rows) row.key ([] ∷ keys) (root ∷ others)
      (subst (In row.key) (reads.row_keys ∙ ap due_keys reads.tree.rows) (map_in (λ (r : Row). r.key) row rows i))

  -- and the parent of each
  parent_key : (key : List ℕ) → In key keys → In (parent_of key) ([] ∷ keys)
  parent_key key i = due_at (λ (n : Node). n.children) (parent_of key) ([] ∷ keys) (root ∷ others) (subst (In (parent_of key)) reads.tree.parents (map_in parent_of key keys i))

  -- and each front
  front_key : (fuel : ℕ) (key : List ℕ) (n : ℕ) → length key ≤ fuel → In key ([] ∷ keys) → In (take n key) ([] ∷ keys)
  front_key zero key n h i = subst (λ (k : List ℕ). In k ([] ∷ keys)) (sym (take_all n key (omega arith))) i
  front_key (suc fuel) key n h (inl e) = subst (λ (k : List ℕ). In k ([] ∷ keys)) (sym (take_all n key (let l : length key ≡ 0 = ap length e in omega arith))) (inl e)
  front_key (suc fuel) key n h (inr i) =
      let l = length-parent key in
      let deeper = front_key fuel (parent_of key) n (omega arith) (parent_key key i) in
      ⊎_elim
      (λ (m : n < length key). subst (λ (k : List ℕ). In k ([] ∷ keys)) (take-take n (length key - 1) key (omega arith)) deeper)
      (λ (m : length key ≤ n). subst (λ (k : List ℕ). In k ([] ∷ keys)) (sym (take_all n key m)) (inr i))
      (cases_lt n (length key))

  -- each node's key is a prefix of a row's
  is_prefix : (fuel : ℕ) (key : List ℕ) → 12 ≤ length key + fuel → In key keys → (row : Row) × In row rows × IsPrefix key row.key
  is_prefix zero key h i = absurd (let few = (reads.tree.fit key i).few in omega arith)
  is_prefix (suc fuel) key h i =
      let at = in_at key keys others reads.tree.lengths i in
      let some = reads.tree.some key at.0 at.1 in
      ⊎_elim
      (λ (own : 0 < at.0.rows).
      let here = subst (In key) (sym (reads.row_keys ∙ ap due_keys reads.tree.rows)) (at_due (λ (n : Node). n.rows) key at.0 ([] ∷ keys) (root ∷ others) (inr at.1) own) in
      let r = in_map (λ (r : Row). r.key) key rows here in
      (r.0, r.1, record { len = length key; some = (reads.tree.fit key i).some; within = (let l = ap length r.2 in omega arith); taken = sym (take_all (length key) key (omega arith)) ∙ ap (take (length key)) r.2 }))
      (λ (none : at.0.rows ≤ 0).
      let below = subst (In key) (sym reads.tree.parents) (at_due (λ (n : Node). n.children) key at.0 ([] ∷ keys) (root ∷ others) (inr at.1) (omega arith)) in
      let c = in_map parent_of key keys below in
      let l = length-parent c.0 in
      let lk = ap length c.2 in
      let long = (reads.tree.fit key i).some in
      let deeper = is_prefix fuel c.0 (omega arith) c.1 in
      let p = deeper.2 in
      let pw = p.within in
      let pl : length c.0 ≡ p.len = ap length p.taken ∙ length-take-le p.len deeper.0.key p.within in
      let cut : length c.0 - 1 ≡ p.len - 1 = omega arith in (
        deeper.0,
        deeper.1,
        record {
          len = p.len - 1;
          some = omega arith;
          within = omega arith;
          taken = c.2 ∙ ap (λ (n : ℕ). take n c.0) cut ∙ ap (take (p.len - 1)) p.taken ∙ take-take (p.len - 1) p.len deeper.0.key (omega arith);
        },
      ))
      (cases_lt 0 at.0.rows)

  -- so the nodes' keys are the same
  pub same_keys : node_keys rows ≡ [] ∷ keys
  same_keys = up_alike KeyBelow key_never (node_keys rows) ([] ∷ keys) (keys_up rows) reads.tree.up
      (λ x i. ⊎_elim (λ (e : x ≡ []). inl e)
      (λ (r : (row : Row) × In row rows × IsPrefix x row.key).
      subst (λ (k : List ℕ). In k ([] ∷ keys)) (sym r.2.taken) (front_key (length r.0.key) r.0.key r.2.len (omega arith) (row_key r.0 r.1)))
      (key_from x rows i))
      (λ x i. ⊎_elim (λ (e : x ≡ []). subst (λ (k : List ℕ). In k (node_keys rows)) (sym e) (empty_in rows))
      (λ (j : In x keys). let r = is_prefix 12 x (omega arith) j in prefix_in x r.0 rows r.1 r.2) i)

  -- and each has as many children and rows
  count_at : (key : List ℕ) (node : Node) → At key node ([] ∷ keys) (root ∷ others) → (child_count rows key ≡ node.children) × (row_count rows key ≡ node.rows)
  count_at key node a = (
    ap (λ (l : List (List ℕ)). length (filter (is_child key) l)) same_keys
        ∙ children_counted key keys (λ x i. let s = (reads.tree.fit x i).some in omega arith)
        ∙ ap (times key) reads.tree.parents
        ∙ times_at (λ (n : Node). n.children) key node ([] ∷ keys) (root ∷ others) reads.tree.up a,
    rows_counted key rows ∙ ap (times key) (reads.row_keys ∙ ap due_keys reads.tree.rows)
        ∙ times_at (λ (n : Node). n.rows) key node ([] ∷ keys) (root ∷ others) reads.tree.up a,
  )

  counted : (some : List (List ℕ)) (nodes : List Node) → ((key : List ℕ) (node : Node) → At key node some nodes → (child_count rows key ≡ node.children) × (row_count rows key ≡ node.rows)) → Counted rows some nodes
  counted [] nodes h = tt
  counted (key ∷ some) [] h = tt
  counted (key ∷ some) (node ∷ nodes) h = (h key node (inl (refl, refl)), counted some nodes (λ k n a. h k n (inr a)))

  pub counted_all : Counted rows ([] ∷ keys) (root ∷ others)
  counted_all = counted ([] ∷ keys) (root ∷ others) count_at
