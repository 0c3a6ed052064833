-- One node after the other, with its children and its rows.
use Rattle.std.proofs.Common.{◌≡◌, ℕ, zero, suc, ◌+◌, ◌-◌, ◌<◌, ◌≤◌, Bool, true, false, List, [], ◌∷◌, ◌++◌, length, get_or, drop, refl, sym, ap, ◌∙◌, subst, inl, inr, arith}
use Rattle.std.specs.List.{flat_map, list_all, prefix_len}
use Rattle.std.proofs.lemmas.Bool.{cond-false, cond-true, false_from_ne_true}
use Rattle.std.proofs.lemmas.List.{append_assoc, drop-drop, drop_at, drop_more, length-append}
use Rattle.chew_spec_syllable.specs.Row.{Row, is_row}
use Rattle.chew_spec_dictionary.specs.Dictionary.{is_map}
use Rattle.chew_spec_dictionary.specs.System.{is_under, rows_under}
use Rattle.chew_spec_image.specs.Fields.{Node, node_bytes}
use Rattle.chew_spec_image.specs.Image.{child_count, nodes_from, nodes_of, row_count}
use Rattle.chew_spec_image.specs.NodeKeys.{is_child, last_code, node_keys}
use Rattle.chew_spec_image.proofs.Bounds.{node_count_few, row_in}
use Rattle.chew_spec_image.proofs.Families.{children_in, children_joined, rows_joined, under_key}
use Rattle.chew_spec_image.proofs.KeyOrder.{KeyBelow, child_parts, key_never}
use Rattle.chew_spec_image.proofs.NodeKeys.{keys_up}
use Rattle.chew_spec_image.proofs.Rising.{Above, In, Up, above_in, in_filter, in_flat}
use Rattle.chew_trie_write.specs.Place.{IsAt, children_of}

-- a front whose elements pass, before one whose first doesn't
front_passes : {X : Type 0} (test : X → Bool) (xs ys : List X) → ((x : X) → In x xs → test x ≡ true) → ((y : X) → In y ys → test y ≡ false) → prefix_len test (xs ++ ys) ≡ length xs
front_passes test [] [] pass fail = refl
front_passes test [] (y ∷ ys) pass fail = cond-false (test y) (1 + prefix_len test ys) 0 (fail y (inl refl))
front_passes test (x ∷ xs) ys pass fail =
    let later = front_passes test xs ys (λ y i. pass y (inr i)) fail in
    let here = cond-true (test x) (1 + prefix_len test (xs ++ ys)) 0 (pass x (inl refl)) in
    omega arith

-- a key is not above itself
not_above : (key : List ℕ) (keys : List (List ℕ)) → Above KeyBelow key keys → In key keys → ⊥
not_above key keys a i = let below = above_in KeyBelow key key keys a i in key_never key key below below

-- children of later keys are no children of a key
no_children : (rows : List Row) (key : List ℕ) (rest : List (List ℕ)) → Above KeyBelow key rest → (x : List ℕ) → In x (children_of rows rest) → is_child key x ≡ false
no_children rows key rest a x i =
    let f = in_flat (children_in (node_keys rows)) x rest i in
    let c = child_parts f.0 x (in_filter (is_child f.0) x (node_keys rows) f.2).1 in
    false_from_ne_true (is_child key x) (λ t. let d = child_parts key x t in not_above key rest a (subst (λ (k : List ℕ). In k rest) (sym c.1 ∙ d.1) f.1))

-- nor are rows of later keys its rows
no_rows : (rows : List Row) (key : List ℕ) (rest : List (List ℕ)) → Above KeyBelow key rest → (x : Row) → In x (flat_map (rows_under rows) rest) → is_under key x ≡ false
no_rows rows key rest a x i =
    let f = in_flat (rows_under rows) x rest i in
    let k = under_key f.0 x (in_filter (is_under f.0) x rows f.2).1 in
    false_from_ne_true (is_under key x) (λ t. not_above key rest a (subst (λ (l : List ℕ). In l rest) (sym k ∙ under_key key x t) f.1))

-- what is counted at a node, and what is left behind it
pub record NodeStep (rows : List Row) (keys : List (List ℕ)) (key : List ℕ) (rest : List (List ℕ)) (child row : ℕ) : Type 0 where
  pub count : prefix_len (is_child key) (drop (child - 1) keys) ≡ child_count rows key
  pub own : prefix_len (is_under key) (drop row rows) ≡ row_count rows key
  pub keys_within : (child - 1) + child_count rows key ≤ length keys
  pub rows_within : row + row_count rows key ≤ length rows
  pub next : IsAt rows keys rest (child + child_count rows key) (row + row_count rows key)

pub node_step : (rows : List Row) (keys : List (List ℕ)) (key : List ℕ) (rest : List (List ℕ)) (child row : ℕ) → IsAt rows keys (key ∷ rest) child row → Above KeyBelow key rest → NodeStep rows keys key rest child row
node_step rows keys key rest child row at above =
    let mine = children_in (node_keys rows) key in
    let others = children_of rows rest in
    let own_rows = rows_under rows key in
    let other_rows = flat_map (rows_under rows) rest in
    let one = at.one in
    let kw = at.keys_within in
    let rw' = at.rows_within in
    let kl = length-append mine others in
    let rl = length-append own_rows other_rows in
    let further : (child - 1) + length mine ≡ (child + length mine) - 1 = omega arith in
    record {
      count = ap (prefix_len (is_child key)) at.children
          ∙ front_passes (is_child key) mine others (λ x i. (in_filter (is_child key) x (node_keys rows) i).1) (no_children rows key rest above);
      own = ap (prefix_len (is_under key)) at.own
          ∙ front_passes (is_under key) own_rows other_rows (λ x i. (in_filter (is_under key) x rows i).1) (no_rows rows key rest above);
      keys_within = omega arith;
      rows_within = omega arith;
      next = record {
        one = omega arith;
        children = ap (λ (k : ℕ). drop k keys) (sym further) ∙ sym (drop-drop (length mine) (child - 1) keys) ∙ ap (drop (length mine)) at.children ∙ drop_at mine others (length mine) refl;
        own = sym (drop-drop (length own_rows) row rows) ∙ ap (drop (length own_rows)) at.own ∙ drop_at own_rows other_rows (length own_rows) refl;
        keys_within = omega arith;
        rows_within = omega arith;
      };
    }

-- before node 0
pub at_root : (rows : List Row) (keys : List (List ℕ)) → [] ∷ keys ≡ node_keys rows → is_map rows ≡ true → list_all is_row rows ≡ true → IsAt rows keys ([] ∷ keys) 1 0
at_root rows keys e m each =
    let all = ap (children_of rows) e ∙ children_joined rows ∙ ap (drop 1) (sym e) in
    let own = ap (flat_map (rows_under rows)) e ∙ rows_joined rows m (λ row i. (row_in row rows each i).some) in
    record {
      one = omega arith;
      children = sym all;
      own = sym own;
      keys_within = let l = ap length all in omega arith;
      rows_within = let l = ap length own in omega arith;
    }

-- a suffix of keys that rise
pub up_drop : (keys : List (List ℕ)) (i : ℕ) → Up KeyBelow keys → Up KeyBelow (drop i keys)
up_drop keys zero u = u
up_drop [] (suc i) u = tt
up_drop (key ∷ keys) (suc i) u = up_drop keys i u.1

-- the keys rise
pub keys_rise : (rows : List Row) (keys : List (List ℕ)) → [] ∷ keys ≡ node_keys rows → Up KeyBelow ([] ∷ keys)
keys_rise rows keys e = subst (Up KeyBelow) (sym e) (keys_up rows)

-- they are few
pub keys_few : (rows : List Row) (keys : List (List ℕ)) → [] ∷ keys ≡ node_keys rows → list_all is_row rows ≡ true → length rows ≤ 250_000 → length keys ≤ 2_750_000
keys_few rows keys e each few = let n = node_count_few rows each in let l = ap length e in omega arith

-- one node more was written
pub written_more : (rows : List Row) (start now after : List ℕ) (key : List ℕ) (rest : List (List ℕ)) (child row children own : ℕ)
    → start ++ flat_map node_bytes (nodes_of rows) ≡ now ++ flat_map node_bytes (nodes_from rows child row (key ∷ rest))
    → children ≡ child_count rows key → own ≡ row_count rows key
    → after ≡ now ++ node_bytes (record { code = last_code key; children = children; first_child = child; rows = own; first_row = row })
    → start ++ flat_map node_bytes (nodes_of rows) ≡ after ++ flat_map node_bytes (nodes_from rows (child + children) (row + own) rest)
written_more rows start now after key rest child row children own had c o pushed =
    let node : Node = record { code = last_code key; children = children; first_child = child; rows = own; first_row = row } in
    had
    ∙ ap (λ (k : ℕ). now ++ (node_bytes (record { code = last_code key; children = k; first_child = child; rows = row_count rows key; first_row = row }) ++ flat_map node_bytes (nodes_from rows (child + k) (row + row_count rows key) rest))) (sym c)
    ∙ ap (λ (k : ℕ). now ++ (node_bytes (record { code = last_code key; children = children; first_child = child; rows = k; first_row = row }) ++ flat_map node_bytes (nodes_from rows (child + children) (row + k) rest))) (sym o)
    ∙ sym (append_assoc now (node_bytes node) (flat_map node_bytes (nodes_from rows (child + children) (row + own) rest)))
    ∙ ap (λ (l : List ℕ). l ++ flat_map node_bytes (nodes_from rows (child + children) (row + own) rest)) (sym pushed)

-- the step at node 0, and at each other one
pub root_step : (rows : List Row) (keys : List (List ℕ)) → [] ∷ keys ≡ node_keys rows → is_map rows ≡ true → list_all is_row rows ≡ true → NodeStep rows keys [] keys 1 0
root_step rows keys e m each = node_step rows keys [] keys 1 0 (at_root rows keys e m each) (keys_rise rows keys e).0

pub key_step : (rows : List Row) (keys : List (List ℕ)) (item key : List ℕ) (i child row : ℕ) → [] ∷ keys ≡ node_keys rows → i < length keys → item ≡ get_or keys i item → key ≡ item
    → IsAt rows keys (drop i keys) child row → NodeStep rows keys key (drop (i + 1) keys) child row
key_step rows keys item key i child row e h at same is =
    let more : drop i keys ≡ key ∷ drop (i + 1) keys = drop_more keys i item h ∙ ap (λ (k : List ℕ). k ∷ drop (i + 1) keys) (sym at ∙ sym same) in
    let up : Up KeyBelow (key ∷ drop (i + 1) keys) = subst (Up KeyBelow) more (up_drop keys i (keys_rise rows keys e).1) in
    node_step rows keys key (drop (i + 1) keys) child row (subst (λ (l : List (List ℕ)). IsAt rows keys l child row) more is) up.0

-- what is left to write, by its first key
pub left_more : (rows : List Row) (keys : List (List ℕ)) (item key start now : List ℕ) (i child row : ℕ) → i < length keys → item ≡ get_or keys i item → key ≡ item
    → start ++ flat_map node_bytes (nodes_of rows) ≡ now ++ flat_map node_bytes (nodes_from rows child row (drop i keys))
    → start ++ flat_map node_bytes (nodes_of rows) ≡ now ++ flat_map node_bytes (nodes_from rows child row (key ∷ drop (i + 1) keys))
left_more rows keys item key start now i child row h at same had =
    had ∙ ap (λ (l : List (List ℕ)). now ++ flat_map node_bytes (nodes_from rows child row l)) (drop_more keys i item h ∙ ap (λ (k : List ℕ). k ∷ drop (i + 1) keys) (sym at ∙ sym same))

-- once a node was written, what is left comes behind it
pub node_written : (rows : List Row) (keys : List (List ℕ)) (start now after key : List ℕ) (rest : List (List ℕ)) (child row children own next_child next_row : ℕ)
    → (s : NodeStep rows keys key rest child row) → children ≡ child_count rows key → own ≡ row_count rows key
    → start ++ flat_map node_bytes (nodes_of rows) ≡ now ++ flat_map node_bytes (nodes_from rows child row (key ∷ rest))
    → after ≡ now ++ node_bytes (record { code = last_code key; children = children; first_child = child; rows = own; first_row = row })
    → next_child ≡ child + children → next_row ≡ row + own
    → IsAt rows keys rest next_child next_row × (start ++ flat_map node_bytes (nodes_of rows) ≡ after ++ flat_map node_bytes (nodes_from rows next_child next_row rest))
node_written rows keys start now after key rest child row children own next_child next_row s c o had pushed nc nr = (
  subst (λ (k : ℕ). IsAt rows keys rest k next_row) (ap (λ (k : ℕ). child + k) (sym c) ∙ sym nc)
      (subst (λ (k : ℕ). IsAt rows keys rest (child + child_count rows key) k) (ap (λ (k : ℕ). row + k) (sym o) ∙ sym nr) s.next),
  written_more rows start now after key rest child row children own had c o pushed
      ∙ ap (λ (k : ℕ). after ++ flat_map node_bytes (nodes_from rows k (row + own) rest)) (sym nc)
      ∙ ap (λ (k : ℕ). after ++ flat_map node_bytes (nodes_from rows next_child k rest)) (sym nr),
)
