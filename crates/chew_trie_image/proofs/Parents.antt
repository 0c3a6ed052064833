-- The nodes one after the other, each with the children that are due under it.
use Rattle.std.proofs.Common.{◌≡◌, ℕ, zero, suc, ◌+◌, ◌-◌, ◌*◌, ◌<◌, ◌≤◌, List, [], ◌∷◌, ◌++◌, length, get_or, take, drop, map, Option, Some, Ok, refl, ap, sym, ◌∙◌, ◌⊎◌, inl, inr, All, sum_by, arith}
use Rattle.std.proofs.lemmas.Bool.{cases_eq}
use Rattle.std.proofs.lemmas.List.{append-nil, append_assoc, drop-append-le, drop_all, length-append, length-map, length_push, nil_from_length, take-append-le, take_all}
use Rattle.std.proofs.lemmas.List.Elements.{All-append, All-head, All-map, All-nil, All-same, All-tail}
use Rattle.std.proofs.lemmas.List.Sums.{sum_by-cons}
use Rattle.chew_spec_image.specs.Fields.{Counts, Node, node_at, nodes_at}
use Rattle.chew_spec_image.specs.ReadNodes.{Due, NodesRead, due_under}
use Rattle.chew_spec_image.specs.ReadRows.{RowsRead}
use Rattle.chew_spec_image.specs.Reading.{image_place}
use Rattle.chew_trie_image.specs.Walk.{IsWaiting, due_of, due_of_children, fault_ahead, fault_once_read}
use Rattle.chew_trie_image.specs.declared.fault.ImageFault.{ImageFault}
use Rattle.chew_trie_image.proofs.Children.{length-due, nodes_at-add}

length-nodes_at : (bytes : List ℕ) (place n : ℕ) → length (nodes_at bytes place n) ≡ n
length-nodes_at bytes place zero = refl
length-nodes_at bytes place (suc n) = let l = length-nodes_at bytes (place + 16) n in omega arith

-- what is due under nodes, and under more of them
due_of-append : (keys more : List (List ℕ)) (nodes others : List Node) → length keys ≡ length nodes → due_of (keys ++ more) (nodes ++ others) ≡ due_of keys nodes ++ due_of more others
due_of-append [] more [] others l = refl
due_of-append [] more (node ∷ nodes) others l = absurd (omega arith)
due_of-append (key ∷ keys) more [] others l = absurd (omega arith)
due_of-append (key ∷ keys) more (node ∷ nodes) others l =
    let front = due_under key node.children in
    ap (λ (due : List Due). front ++ due) (due_of-append keys more nodes others (omega arith)) ∙ sym (append_assoc front (due_of keys nodes) (due_of more others))

-- the key of a child
abbrev child_key : List ℕ → Node → List ℕ
child_key key node = key ++ node.code ∷ []

due_of-children : (key : List ℕ) (nodes : List Node) → due_of (map (child_key key) nodes) nodes ≡ due_of_children key nodes
due_of-children key [] = refl
due_of-children key (node ∷ nodes) = ap (λ (due : List Due). due_under (child_key key node) node.children ++ due) (due_of-children key nodes)

length-due_of_children : (key : List ℕ) (nodes : List Node) → length (due_of_children key nodes) ≡ sum_by (λ (node : Node). node.children) nodes
length-due_of_children key [] = refl
length-due_of_children key (node ∷ nodes) =
    let a = length-append (due_under (child_key key node) node.children) (due_of_children key nodes) in
    let b = length-due (child_key key node) node.children in
    let c = length-due_of_children key nodes in
    let d = sum_by-cons (λ (node : Node). node.children) node nodes in
    omega arith

-- the next node whose children are read, and those behind it
pub record IsNext (bytes : List ℕ) (counts : Counts) (i len level_end : ℕ) (nodes : NodesRead) (fault : Option ImageFault) (read : RowsRead) : Type 0 where
  pub key : List ℕ
  pub keys : List (List ℕ)
  pub near : ℕ
  pub few : near ≤ length keys
  pub deep : len ≤ suc i
  pub long : suc (length key) ≡ len
  pub place : nodes.place ≡ 20 + 16 * (i + suc (length keys))
  pub level : level_end ≡ 20 + 16 * (i + suc near)
  pub here : All (λ other. suc (length other) ≡ len) (take near keys)
  pub below : All (λ other. length other ≡ len) (drop near keys)
  pub children : nodes.next_child ≡ (i + suc (length keys)) + ((node_at bytes (20 + 16 * i)).children + length (due_of keys (nodes_at bytes (20 + 16 * (i + 1)) (length keys))))
  pub same : image_place bytes ≡ fault_ahead bytes counts nodes fault read
      (due_under key (node_at bytes (20 + 16 * i)).children ++ due_of keys (nodes_at bytes (20 + 16 * (i + 1)) (length keys))) (counts.nodes - (i + suc (length keys)))

-- where none waits, the next node is no child of an earlier one
pub none_waits : (bytes : List ℕ) (counts : Counts) (i len level_end : ℕ) (nodes : NodesRead) (fault : Option ImageFault) (read : RowsRead)
    → IsWaiting bytes counts i len level_end nodes fault read → i < counts.nodes → 20 + 16 * i ≡ nodes.place → image_place bytes ≡ Some nodes.place
none_waits bytes counts i len level_end nodes fault read w h at =
    let p = w.place in
    let none : length w.keys ≡ 0 = omega arith in
    let left : counts.nodes - (i + length w.keys) ≡ suc (counts.nodes - (i + 1)) = omega arith in
    let keys = nil_from_length w.keys none in
    w.same
    ∙ ap (λ (n : ℕ). fault_ahead bytes counts nodes fault read (due_of w.keys (nodes_at bytes (20 + 16 * i) (length w.keys))) n) left
    ∙ ap (λ (ks : List (List ℕ)). fault_ahead bytes counts nodes fault read (due_of ks (nodes_at bytes (20 + 16 * i) (length ks))) (suc (counts.nodes - (i + 1)))) keys

-- at the end none waits, and all nodes were read
pub all_read : (bytes : List ℕ) (counts : Counts) (i len level_end : ℕ) (nodes : NodesRead) (fault : Option ImageFault) (read : RowsRead)
    → IsWaiting bytes counts i len level_end nodes fault read → counts.nodes ≤ i → nodes.place ≤ 20 + 16 * counts.nodes
    → image_place bytes ≡ fault_once_read bytes counts nodes.next_row fault read (Ok [])
all_read bytes counts i len level_end nodes fault read w h within =
    let p = w.place in
    let none : length w.keys ≡ 0 = omega arith in
    let left : counts.nodes - (i + length w.keys) ≡ 0 = omega arith in
    let keys = nil_from_length w.keys none in
    w.same
    ∙ ap (λ (n : ℕ). fault_ahead bytes counts nodes fault read (due_of w.keys (nodes_at bytes (20 + 16 * i) (length w.keys))) n) left
    ∙ ap (λ (ks : List (List ℕ)). fault_ahead bytes counts nodes fault read (due_of ks (nodes_at bytes (20 + 16 * i) (length ks))) 0) keys

-- at first node 0 waits
pub root_waits : (bytes : List ℕ) (counts : Counts) (nodes : NodesRead) (fault : Option ImageFault) (read : RowsRead)
    → nodes.place ≡ 36 → nodes.next_child ≡ 1 + (node_at bytes 20).children
    → image_place bytes ≡ fault_ahead bytes counts nodes fault read (due_under [] (node_at bytes 20).children) (counts.nodes - 1)
    → IsWaiting bytes counts 0 0 20 nodes fault read
root_waits bytes counts nodes fault read place children same = record {
  keys = [] ∷ [];
  near = 0;
  few = omega arith;
  deep = omega arith;
  place = omega arith;
  level = refl;
  here = All-nil (λ key. suc (length key) ≡ 0);
  below = λ k d h. only k d h;
  children = let a = ap length (append-nil (due_under [] (node_at bytes 20).children)) in let b = length-due [] (node_at bytes 20).children in omega arith;
  same = same ∙ ap (λ (due : List Due). fault_ahead bytes counts nodes fault read due (counts.nodes - 1)) (sym (append-nil (due_under [] (node_at bytes 20).children)));
}
  where
    only : (k : ℕ) (d : List ℕ) → k < 1 → length (get_or ([] ∷ []) k d) ≡ 0
    only zero d h = refl
    only (suc k) d h = absurd (omega arith)

-- the step to the next node, once its level is known
pub next_of : (bytes : List ℕ) (counts : Counts) (i len level_end len_now end_now : ℕ) (nodes : NodesRead) (fault : Option ImageFault) (read : RowsRead)
    → IsWaiting bytes counts i len level_end nodes fault read → (20 + 16 * i ≡ nodes.place → ⊥)
    → (level_end ≡ 20 + 16 * i → (len_now ≡ len + 1) × (end_now ≡ nodes.place))
    → ((level_end ≡ 20 + 16 * i → ⊥) → (len_now ≡ len) × (end_now ≡ level_end))
    → IsNext bytes counts i len_now end_now nodes fault read
next_of bytes counts i len level_end len_now end_now nodes fault read w some next stays = by w.keys w.few w.place w.here w.below w.children w.same
  where
    Here : List (List ℕ) → Type 0
    Here keys = All (λ (key : List ℕ). suc (length key) ≡ len) keys

    same_len : len_now ≡ len → (keys : List (List ℕ)) → All (λ (key : List ℕ). suc (length key) ≡ len) keys → All (λ (key : List ℕ). suc (length key) ≡ len_now) keys
    same_len e keys h k d l = let g = h k d l in omega arith

    same_below : len_now ≡ len → (keys : List (List ℕ)) → All (λ (key : List ℕ). length key ≡ len) keys → All (λ (key : List ℕ). length key ≡ len_now) keys
    same_below e keys h k d l = let g = h k d l in omega arith

    deeper : len_now ≡ len + 1 → (keys : List (List ℕ)) → All (λ (key : List ℕ). length key ≡ len) keys → All (λ (key : List ℕ). suc (length key) ≡ len_now) keys
    deeper e keys h k d l = let g = h k d l in omega arith

    by : (keys : List (List ℕ)) → w.near ≤ length keys → nodes.place ≡ 20 + 16 * (i + length keys) → All (λ (key : List ℕ). suc (length key) ≡ len) (take w.near keys)
        → All (λ (key : List ℕ). length key ≡ len) (drop w.near keys)
        → nodes.next_child ≡ (i + length keys) + length (due_of keys (nodes_at bytes (20 + 16 * i) (length keys)))
        → image_place bytes ≡ fault_ahead bytes counts nodes fault read (due_of keys (nodes_at bytes (20 + 16 * i) (length keys))) (counts.nodes - (i + length keys))
        → IsNext bytes counts i len_now end_now nodes fault read
    by [] few place here below children same = absurd (some (omega arith))
    by (key ∷ keys) few place here below children same = on (cases_eq w.near 0)
      where
        behind : (20 + 16 * i) + 16 ≡ 20 + 16 * (i + 1)
        behind = omega arith

        counted : nodes.next_child ≡ (i + suc (length keys)) + ((node_at bytes (20 + 16 * i)).children + length (due_of keys (nodes_at bytes (20 + 16 * (i + 1)) (length keys))))
        counted =
            let a = length-append (due_under key (node_at bytes (20 + 16 * i)).children) (due_of keys (nodes_at bytes ((20 + 16 * i) + 16) (length keys))) in
            let b = length-due key (node_at bytes (20 + 16 * i)).children in
            let c = ap (λ (p : ℕ). length (due_of keys (nodes_at bytes p (length keys)))) behind in
            omega arith

        here_same : image_place bytes ≡ fault_ahead bytes counts nodes fault read
            (due_under key (node_at bytes (20 + 16 * i)).children ++ due_of keys (nodes_at bytes (20 + 16 * (i + 1)) (length keys))) (counts.nodes - (i + suc (length keys)))
        here_same = same ∙ ap (λ (p : ℕ). fault_ahead bytes counts nodes fault read
            (due_under key (node_at bytes (20 + 16 * i)).children ++ due_of keys (nodes_at bytes p (length keys))) (counts.nodes - (i + suc (length keys)))) behind

        on : (w.near ≡ 0) ⊎ (w.near ≡ 0 → ⊥) → IsNext bytes counts i len_now end_now nodes fault read
        on (inl none) =
            let level = w.level in
            let deep = w.deep in
            let n = next (omega arith) in
            let all = All-same (λ (other : List ℕ). length other ≡ len) (key ∷ keys) (drop w.near (key ∷ keys)) (ap (λ (k : ℕ). drop k (key ∷ keys)) (sym none)) below in
            let up = deeper n.0 (key ∷ keys) all in
            record {
              key = key;
              keys = keys;
              near = length keys;
              few = omega arith;
              deep = let e = n.0 in omega arith;
              long = All-head (λ (other : List ℕ). suc (length other) ≡ len_now) key keys up;
              place = place;
              level = let e = n.1 in omega arith;
              here = All-same (λ (other : List ℕ). suc (length other) ≡ len_now) (take (length keys) keys) keys (take_all (length keys) keys (omega arith))
                  (All-tail (λ (other : List ℕ). suc (length other) ≡ len_now) key keys up);
              below = All-same (λ (other : List ℕ). length other ≡ len_now) (drop (length keys) keys) [] (drop_all (length keys) keys (omega arith)) (All-nil (λ (other : List ℕ). length other ≡ len_now));
              children = counted;
              same = here_same;
            }
        on (inr more) =
            let level = w.level in
            let deep = w.deep in
            let n = stays (λ e. more (omega arith)) in
            let near : w.near ≡ suc (w.near - 1) = omega arith in
            let up = All-same (λ (other : List ℕ). suc (length other) ≡ len) (key ∷ take (w.near - 1) keys) (take w.near (key ∷ keys)) (ap (λ (k : ℕ). take k (key ∷ keys)) (sym near)) here in
            let down = All-same (λ (other : List ℕ). length other ≡ len) (drop (w.near - 1) keys) (drop w.near (key ∷ keys)) (ap (λ (k : ℕ). drop k (key ∷ keys)) (sym near)) below in
            record {
              key = key;
              keys = keys;
              near = w.near - 1;
              few = omega arith;
              deep = let e = n.0 in omega arith;
              long = let l = All-head (λ (other : List ℕ). suc (length other) ≡ len) key (take (w.near - 1) keys) up in let e = n.0 in omega arith;
              place = place;
              level = let e = n.1 in omega arith;
              here = same_len n.0 (take (w.near - 1) keys) (All-tail (λ (other : List ℕ). suc (length other) ≡ len) key (take (w.near - 1) keys) up);
              below = same_below n.0 (drop (w.near - 1) keys) down;
              children = counted;
              same = here_same;
            }

-- once they were read, the node behind it is next
pub waits_behind : (bytes : List ℕ) (counts : Counts) (i len level_end : ℕ) (nodes then : NodesRead) (fault after : Option ImageFault) (read past : RowsRead)
    → (n : IsNext bytes counts i len level_end nodes fault read) → nodes.next_child ≤ counts.nodes
    → then.place ≡ nodes.place + 16 * (node_at bytes (20 + 16 * i)).children
    → then.next_child ≡ nodes.next_child + sum_by (λ (node : Node). node.children) (nodes_at bytes nodes.place (node_at bytes (20 + 16 * i)).children)
    → ((key : List ℕ) (later : List Due) (left : ℕ) → suc (length key) ≡ len → (node_at bytes (20 + 16 * i)).children ≤ left
    → fault_ahead bytes counts nodes fault read (due_under key (node_at bytes (20 + 16 * i)).children ++ later) left
    ≡ fault_ahead bytes counts then after past (later ++ due_of_children key (nodes_at bytes nodes.place (node_at bytes (20 + 16 * i)).children)) (left - (node_at bytes (20 + 16 * i)).children))
    → IsWaiting bytes counts (i + 1) len level_end then after past
waits_behind bytes counts i len level_end nodes then fault after read past n within place children step =
    let c = (node_at bytes (20 + 16 * i)).children in
    let new_nodes = nodes_at bytes nodes.place c in
    let more : List (List ℕ) = map (child_key n.key) new_nodes in
    let all : List (List ℕ) = n.keys ++ more in
    let old_nodes = nodes_at bytes (20 + 16 * (i + 1)) (length n.keys) in
    let old_due = due_of n.keys old_nodes in
    let few = n.few in
    let deep = n.deep in
    let long = n.long in
    let begin = n.place in
    let level = n.level in
    let count = n.children in
    let new_count : length new_nodes ≡ c = length-nodes_at bytes nodes.place c in
    let more_count : length more ≡ c = length-map new_nodes (child_key n.key) ∙ new_count in
    let all_count : length all ≡ length n.keys + c = length-append n.keys more ∙ ap (λ (k : ℕ). length n.keys + k) more_count in
    let here_place : (20 + 16 * (i + 1)) + 16 * length n.keys ≡ nodes.place = omega arith in
    let all_nodes : nodes_at bytes (20 + 16 * (i + 1)) (length all) ≡ old_nodes ++ new_nodes =
    ap (nodes_at bytes (20 + 16 * (i + 1))) all_count
    ∙ nodes_at-add bytes (20 + 16 * (i + 1)) (length n.keys) c
    ∙ ap (λ (p : ℕ). old_nodes ++ nodes_at bytes p c) here_place in
    let joined : due_of all (nodes_at bytes (20 + 16 * (i + 1)) (length all)) ≡ old_due ++ due_of_children n.key new_nodes =
    ap (due_of all) all_nodes
    ∙ due_of-append n.keys more old_nodes new_nodes (sym (length-nodes_at bytes (20 + 16 * (i + 1)) (length n.keys)))
    ∙ ap (λ (due : List Due). old_due ++ due) (due_of-children n.key new_nodes) in
    let left : (counts.nodes - (i + suc (length n.keys))) - c ≡ counts.nodes - ((i + 1) + length all) = omega arith in
    let all_long : All (λ (key : List ℕ). length key ≡ len) more =
    All-map (λ (key : List ℕ). length key ≡ len) (child_key n.key) new_nodes (λ k d h. length_push n.key (get_or new_nodes k d).code ∙ (let e : length n.key + 1 ≡ len = omega arith in e)) in
    record {
      keys = all;
      near = n.near;
      few = omega arith;
      deep = omega arith;
      place = omega arith;
      level = omega arith;
      here = All-same (λ (key : List ℕ). suc (length key) ≡ len) (take n.near all) (take n.near n.keys) (take-append-le n.near n.keys more few) n.here;
      below = All-same (λ (key : List ℕ). length key ≡ len) (drop n.near all) (drop n.near n.keys ++ more) (drop-append-le n.near n.keys more few)
          (All-append (λ (key : List ℕ). length key ≡ len) (drop n.near n.keys) more n.below all_long);
      children = let l = ap length joined in let a = length-append old_due (due_of_children n.key new_nodes) in let b = length-due_of_children n.key new_nodes in omega arith;
      same = n.same
          ∙ step n.key old_due (counts.nodes - (i + suc (length n.keys))) long (omega arith)
          ∙ ap (λ (k : ℕ). fault_ahead bytes counts then after past (old_due ++ due_of_children n.key new_nodes) k) left
          ∙ ap (λ (due : List Due). fault_ahead bytes counts then after past due (counts.nodes - ((i + 1) + length all))) (sym joined);
    }

-- a fault of one of these children is the first one
pub next_fails : (bytes : List ℕ) (counts : Counts) (i len level_end place : ℕ) (nodes : NodesRead) (fault : Option ImageFault) (read : RowsRead)
    → IsNext bytes counts i len level_end nodes fault read → nodes.next_child ≤ counts.nodes
    → ((key : List ℕ) (later : List Due) (left : ℕ) → suc (length key) ≡ len → (node_at bytes (20 + 16 * i)).children ≤ left
    → fault_ahead bytes counts nodes fault read (due_under key (node_at bytes (20 + 16 * i)).children ++ later) left ≡ Some place)
    → image_place bytes ≡ Some place
next_fails bytes counts i len level_end place nodes fault read n within step =
    let count = n.children in
    n.same ∙ step n.key (due_of n.keys (nodes_at bytes (20 + 16 * (i + 1)) (length n.keys))) (counts.nodes - (i + suc (length n.keys))) n.long (omega arith)

-- the children of the next node are within the image
pub next_fits : (bytes : List ℕ) (counts : Counts) (i len level_end : ℕ) (nodes : NodesRead) (fault : Option ImageFault) (read : RowsRead)
    → IsNext bytes counts i len level_end nodes fault read → nodes.next_child ≤ counts.nodes
    → nodes.place + 16 * (node_at bytes (20 + 16 * i)).children ≤ 20 + 16 * counts.nodes
next_fits bytes counts i len level_end nodes fault read n within = let e = n.children in let p = n.place in omega arith
