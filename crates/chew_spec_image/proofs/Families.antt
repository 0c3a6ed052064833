-- The children of the nodes, one node's after the other's, are all nodes but node 0; and so are the rows all rows.
use Rattle.std.proofs.Common.{◌≡◌, ℕ, ◌<◌, ◌≤◌, List, [], ◌∷◌, ◌++◌, length, drop, refl, sym, ap, ◌∙◌, subst, inl, inr, ⊎_elim, true, Ordering, Less, Equal, Greater, nat_cmp, arith}
use Rattle.std.specs.List.{filter, flat_map, list_all}
use Rattle.std.specs.Ordering.{is_lt, ordering_reverse, ordering_then}
use Rattle.std.specs.Cmp.Lexicographic.{slice_cmp}
use Rattle.std.proofs.lemmas.Bool.{and_parts, cases_lt}
use Rattle.std.proofs.lemmas.Slice.Eq.{bytes_eq-Decides}
use Rattle.std.proofs.lemmas.List.{nil_from_length}
use Rattle.chew_spec_syllable.specs.Row.{Row, image_cmp}
use Rattle.chew_spec_dictionary.specs.Dictionary.{is_map}
use Rattle.chew_spec_dictionary.specs.System.{is_under, rows_under}
use Rattle.chew_spec_dictionary.proofs.ImageOrder.{image_parts, image_total}
use Rattle.chew_spec_image.specs.NodeKeys.{is_child, last_code, node_keys, parent_of}
use Rattle.chew_spec_image.proofs.KeyOrder.{KeyBelow, below_children, child_from, child_parts, key_never, parent_last}
use Rattle.chew_spec_image.proofs.NodeKeys.{keys_root, keys_up, parent_in, whole_in}
use Rattle.chew_spec_image.proofs.Rising.{Above, In, Up, UpParts, above_in, in_filter, in_flat, in_part, in_passing, up_alike, up_filter, up_flat}

-- the children of a key among others
abbrev pub children_in : List (List ℕ) → List ℕ → List (List ℕ)
children_in keys key = filter (is_child key) keys

-- the children of a lower key are below those of a higher one
child_below : (a b x y : List ℕ) → KeyBelow a b → is_child a x ≡ true → is_child b y ≡ true → KeyBelow x y
child_below a b x y e cx cy =
    let px = child_parts a x cx in
    let py = child_parts b y cy in
    let xs : x ≡ a ++ last_code x ∷ [] = parent_last x px.0 ∙ ap (λ (k : List ℕ). k ++ last_code x ∷ []) px.1 in
    let ys : y ≡ b ++ last_code y ∷ [] = parent_last y py.0 ∙ ap (λ (k : List ℕ). k ++ last_code y ∷ []) py.1 in
    subst (λ (k : List ℕ). KeyBelow k y) (sym xs) (subst (λ (k : List ℕ). KeyBelow (a ++ last_code x ∷ []) k) (sym ys) (below_children a b (last_code x) (last_code y) e))

families_apart : (keys others : List (List ℕ)) → Up KeyBelow others → UpParts KeyBelow (children_in keys) others
families_apart keys [] u = tt
families_apart keys (key ∷ others) u = (
  λ other x y i ix iy. child_below key other x y (above_in KeyBelow key other others u.0 i) (in_filter (is_child key) x keys ix).1 (in_filter (is_child other) y keys iy).1,
  families_apart keys others u.1,
)

-- an element behind the first of rising keys is not the first
behind_root : (rows : List Row) (x : List ℕ) → In x (drop 1 (node_keys rows)) → 0 < length x
behind_root rows x i = ⊎_elim
    (λ (h : 0 < length x). h)
    (λ (h : length x ≤ 0).
    let e : x ≡ [] = nil_from_length x (omega arith) in
    let root : Up KeyBelow ([] ∷ drop 1 (node_keys rows)) = subst (Up KeyBelow) (keys_root rows) (keys_up rows) in
    let below : KeyBelow [] [] = subst (λ (k : List ℕ). KeyBelow [] k) e (above_in KeyBelow [] x (drop 1 (node_keys rows)) root.0 i) in
    absurd (key_never [] [] below below))
    (cases_lt 0 (length x))

-- the children of all nodes are the nodes behind node 0
pub children_joined : (rows : List Row) → flat_map (children_in (node_keys rows)) (node_keys rows) ≡ drop 1 (node_keys rows)
children_joined rows =
    let keys = node_keys rows in
    let root = keys_root rows in
    let up = keys_up rows in
    let behind : Up KeyBelow ([] ∷ drop 1 keys) = subst (Up KeyBelow) root up in
    up_alike KeyBelow key_never (flat_map (children_in keys) keys) (drop 1 keys)
    (up_flat KeyBelow (children_in keys) keys (λ key i. up_filter KeyBelow (is_child key) keys up) (families_apart keys keys up))
    behind.1
    (λ x i. let f = in_flat (children_in keys) x keys i in let c = in_filter (is_child f.0) x keys f.2 in not_root x (child_parts f.0 x c.1).0 (subst (In x) root c.0))
    (λ x i. let h = behind_root rows x i in let j = subst (In x) (sym root) (inr i) in
    in_part (children_in keys) x (parent_of x) keys (parent_in x rows j h) (in_passing (is_child (parent_of x)) x keys j (child_from (parent_of x) x h refl)))
  where
    not_root : (x : List ℕ) → 0 < length x → In x ([] ∷ drop 1 (node_keys rows)) → In x (drop 1 (node_keys rows))
    not_root x h (inl e) = absurd (let l : length x ≡ 0 = ap length e in omega arith)
    not_root x h (inr i) = i

-- one row is below another
abbrev pub RowBelow : Row → Row → Type 0
RowBelow row other = image_cmp row other ≡ Less

pub less_from : (o : Ordering) → is_lt o ≡ true → o ≡ Less
less_from Less e = refl
less_from Equal e = cc
less_from Greater e = cc

row_never : (row other : Row) → RowBelow row other → RowBelow other row → ⊥
row_never row other a b = let e : Less ≡ Greater = sym b ∙ image_total.antisymm other row ∙ ap ordering_reverse a in no e
  where
    no : Less ≡ Greater → ⊥
    no e = cc

-- the rows of a map rise
pub map_up : (rows : List Row) → is_map rows ≡ true → Up RowBelow rows
map_up [] m = tt
map_up (row ∷ rows) m =
    let both = and_parts (list_all (λ later. is_lt (image_cmp row later)) rows) (is_map rows) m in
    (above rows both.0, map_up rows both.1)
  where
    above : (others : List Row) → list_all (λ later. is_lt (image_cmp row later)) others ≡ true → Above RowBelow row others
    above [] e = tt
    above (other ∷ others) e = let both = and_parts (is_lt (image_cmp row other)) (list_all (λ later. is_lt (image_cmp row later)) others) e in
        (less_from (image_cmp row other) both.0, above others both.1)

-- rows of a lower key are below those of a higher one
pub rows_below : (row other : Row) → KeyBelow row.key other.key → RowBelow row other
rows_below row other e = image_parts row other ∙ by (nat_cmp (length row.key) (length other.key)) (slice_cmp nat_cmp row.key other.key)
    (slice_cmp nat_cmp row.phrase other.phrase) e
  where
    by : (o p q : Ordering) → ordering_then o p ≡ Less → ordering_then o (ordering_then p q) ≡ Less
    by Less p q e = refl
    by Equal Less q e = refl
    by Equal Equal q e = cc
    by Equal Greater q e = cc
    by Greater p q e = cc

pub under_key : (key : List ℕ) (row : Row) → is_under key row ≡ true → row.key ≡ key
under_key key row e = (bytes_eq-Decides row.key key).0 e

rows_apart : (rows : List Row) (keys : List (List ℕ)) → Up KeyBelow keys → UpParts RowBelow (rows_under rows) keys
rows_apart rows [] u = tt
rows_apart rows (key ∷ keys) u = (
  λ other x y i ix iy.
      let kx = under_key key x (in_filter (is_under key) x rows ix).1 in
      let ky = under_key other y (in_filter (is_under other) y rows iy).1 in
      rows_below x y (subst (λ (k : List ℕ). KeyBelow k y.key) (sym kx) (subst (KeyBelow key) (sym ky) (above_in KeyBelow key other keys u.0 i))),
  rows_apart rows keys u.1,
)

-- the rows of all nodes are all rows
pub rows_joined : (rows : List Row) → is_map rows ≡ true → ((row : Row) → In row rows → 1 ≤ length row.key) → flat_map (rows_under rows) (node_keys rows) ≡ rows
rows_joined rows m some =
    let keys = node_keys rows in
    let up = map_up rows m in
    up_alike RowBelow row_never (flat_map (rows_under rows) keys) rows
    (up_flat RowBelow (rows_under rows) keys (λ key i. up_filter RowBelow (is_under key) rows up) (rows_apart rows keys (keys_up rows)))
    up
    (λ x i. let f = in_flat (rows_under rows) x keys i in (in_filter (is_under f.0) x rows f.2).0)
    (λ x i. in_part (rows_under rows) x x.key keys (whole_in x rows i (some x i)) (in_passing (is_under x.key) x rows i ((bytes_eq-Decides x.key x.key).1 refl)))
