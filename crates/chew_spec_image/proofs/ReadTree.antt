-- The nodes that were read without a fault, by their keys.
use Rattle.std.proofs.Common.{◌≡◌, ℕ, zero, suc, ◌+◌, ◌<◌, ◌≤◌, true, false, eqb, leb, List, [], ◌∷◌, ◌++◌, length, map, replicate, None, Ok, refl, sym, ap, ap₂, ◌∙◌, subst, inr, ⊎_elim, arith}
use Rattle.std.specs.Bool.{⊤}
use Rattle.std.specs.List.{list_all}
use Rattle.std.proofs.lemmas.Bool.{and_from, and_parts, eqb-true, leb-true}
use Rattle.std.proofs.lemmas.List.{append_assoc, length-append, length_push, nil_from_length}
use Rattle.chew_spec_syllable.specs.Row.{Row}
use Rattle.chew_spec_syllable.specs.Syllable.{is_code}
use Rattle.chew_spec_image.specs.Fields.{Counts, Node}
use Rattle.chew_spec_image.specs.Image.{child_count, nodes_from, row_count}
use Rattle.chew_spec_image.specs.NodeKeys.{last_code, parent_of}
use Rattle.chew_spec_image.specs.ReadNodes.{Due, NodesRead, at_root, due_under, past_node, read_all_nodes, read_nodes, root_fault}
use Rattle.chew_spec_image.proofs.Counting.{At, due_keys}
use Rattle.chew_spec_image.proofs.KeyOrder.{KeyBelow, below_shorter, last-push, parent-push}
use Rattle.chew_spec_image.proofs.ReadKeys.{Fine, IsQueue, Links, at_most_under, links_others, checked_none, children_due, keys_read, key_of, keys_rise, length-due_under, length-keys_read, nodes_ok, rows_due, unless_ok}
use Rattle.chew_spec_image.proofs.Rising.{In, Up}

-- the children of nodes, summed
abbrev pub total : List Node → ℕ
total [] = 0
total (node ∷ nodes) = node.children + total nodes

-- they are within the number of nodes
total_within : (counts : Counts) (due : List Due) (read : NodesRead) (nodes : List Node) → Fine counts due read nodes → read.next_child ≤ counts.nodes → read.next_child + total nodes ≤ counts.nodes
total_within counts due read [] f h = omega arith
total_within counts [] read (node ∷ nodes) f h = absurd f
total_within counts (due ∷ later) read (node ∷ nodes) f h = let here = f.0.children in let l = total_within counts (later ++ due_under (key_of due node) node.children) (past_node read node) nodes f.1 here in omega arith

-- and each node is one that was due
all_due : (counts : Counts) (due : List Due) (read : NodesRead) (nodes : List Node) → Fine counts due read nodes → length nodes ≤ length due + total nodes
all_due counts due read [] f = omega arith
all_due counts [] read (node ∷ nodes) f = absurd f
all_due counts (due ∷ later) read (node ∷ nodes) f =
    let l = all_due counts (later ++ due_under (key_of due node) node.children) (past_node read node) nodes f.1 in
    let a = length-append later (due_under (key_of due node) node.children) in
    let d = length-due_under (key_of due node) node.children in
    omega arith

-- where no more are due than there are, the parents of the keys are those of what was due
parents : (counts : Counts) (due : List Due) (read : NodesRead) (nodes : List Node) → Fine counts due read nodes → length due + total nodes ≡ length nodes
    → map parent_of (keys_read due nodes) ≡ due_keys (due ++ children_due (keys_read due nodes) nodes)
parents counts due read [] f n = let none = nil_from_length due (omega arith) in ap (λ (d : List Due). due_keys (d ++ [])) (sym none)
parents counts [] read (node ∷ nodes) f n = absurd f
parents counts (due ∷ later) read (node ∷ nodes) f n =
    let key = key_of due node in
    let more = later ++ due_under key node.children in
    let a = length-append later (due_under key node.children) in
    let d = length-due_under key node.children in
    let rest = parents counts more (past_node read node) nodes f.1 (omega arith) in
    ap (λ (k : List ℕ). k ∷ map parent_of (keys_read more nodes)) (parent-push due.key node.code)
    ∙ ap (λ (l : List (List ℕ)). due.key ∷ l) (rest ∙ ap due_keys (append_assoc later (due_under key node.children) (children_due (keys_read more nodes) nodes)))

-- a key of 1 to 11 codes
pub record KeyFits (key : List ℕ) : Type 0 where
  pub codes : list_all is_code key ≡ true
  pub some : 1 ≤ length key
  pub few : length key ≤ 11

-- keys of up to 10 codes, to which one may be added
abbrev pub DueFits : List Due → Type 0
DueFits [] = ⊤
DueFits (due ∷ later) = ((list_all is_code due.key ≡ true) × (length due.key < 11)) × DueFits later

list_all_push : (codes : List ℕ) (code : ℕ) → list_all is_code codes ≡ true → is_code code ≡ true → list_all is_code (codes ++ code ∷ []) ≡ true
list_all_push [] code a c = and_from (is_code code) true c refl
list_all_push (first ∷ codes) code a c = let both = and_parts (is_code first) (list_all is_code codes) a in and_from (is_code first) (list_all is_code (codes ++ code ∷ [])) both.0 (list_all_push codes code both.1 c)

due_fits_append : (due more : List Due) → DueFits due → DueFits more → DueFits (due ++ more)
due_fits_append [] more a b = b
due_fits_append (d ∷ due) more a b = (a.0, due_fits_append due more a.1 b)

due_fits_under : (key : List ℕ) (n : ℕ) → list_all is_code key ≡ true → (0 < n → length key < 11) → DueFits (due_under key n)
due_fits_under key zero a h = tt
due_fits_under key (suc n) a h = ((a, h (omega arith)), others n)
  where
    others : (k : ℕ) → DueFits (replicate k (record { key = key; first = false }))
    others zero = tt
    others (suc k) = ((a, h (omega arith)), others k)

keys_fit : (counts : Counts) (due : List Due) (read : NodesRead) (nodes : List Node) → Fine counts due read nodes → DueFits due → (key : List ℕ) → In key (keys_read due nodes) → KeyFits key
keys_fit counts due read [] f d key i = absurd i
keys_fit counts [] read (node ∷ nodes) f d key i = absurd i
keys_fit counts (due ∷ later) read (node ∷ nodes) f d key i =
    let mine = key_of due node in
    let codes = list_all_push due.key node.code d.0.0 f.0.code in
    let l = length_push due.key node.code in
    let short = d.0.1 in
    let more = due_fits_append later (due_under mine node.children) d.1
    (due_fits_under mine node.children codes (λ h. ⊎_elim (λ (s : suc (length due.key) < 11). (let e : length mine < 11 = omega arith in e)) (λ (z : node.children ≡ 0). absurd (omega arith)) f.0.deep)) in
    ⊎_elim
    (λ (e : key ≡ mine). subst KeyFits (sym e) (record { codes = codes; some = omega arith; few = omega arith }))
    (λ (j : In key (keys_read (later ++ due_under mine node.children) nodes)). keys_fit counts (later ++ due_under mine node.children) (past_node read node) nodes f.1 more key j)
    i

-- each node has children or rows
has_some : (counts : Counts) (due : List Due) (read : NodesRead) (nodes : List Node) → Fine counts due read nodes → (key : List ℕ) (node : Node) → At key node (keys_read due nodes) nodes → 0 < node.rows + node.children
has_some counts due read [] f key node a = absurd a
has_some counts [] read (one ∷ nodes) f key node a = absurd a
has_some counts (due ∷ later) read (one ∷ nodes) f key node a = ⊎_elim
    (λ (e : (key ≡ key_of due one) × (node ≡ one)). subst (λ (n : Node). 0 < n.rows + n.children) (sym e.1) f.0.some)
    (λ (b : At key node (keys_read (later ++ due_under (key_of due one) one.children) nodes) nodes). has_some counts (later ++ due_under (key_of due one) one.children) (past_node read one) nodes f.1 key node b)
    a

-- nodes of keys that have as many children and rows as said
abbrev pub Counted : List Row → List (List ℕ) → List Node → Type 0
Counted rows [] nodes = ⊤
Counted rows (key ∷ keys) [] = ⊤
Counted rows (key ∷ keys) (node ∷ nodes) = ((child_count rows key ≡ node.children) × (row_count rows key ≡ node.rows)) × Counted rows keys nodes

-- the fields of a node
pub same_node : (a b : Node) → a.code ≡ b.code → a.children ≡ b.children → a.first_child ≡ b.first_child → a.rows ≡ b.rows → a.first_row ≡ b.first_row → a ≡ b
same_node a b p q r s t = λ i. record { code = p i; children = q i; first_child = r i; rows = s i; first_row = t i }

-- are the nodes of the rows
nodes_again : (rows : List Row) (counts : Counts) (due : List Due) (read : NodesRead) (nodes : List Node) → Fine counts due read nodes → Counted rows (keys_read due nodes) nodes
    → nodes ≡ nodes_from rows read.next_child read.next_row (keys_read due nodes)
nodes_again rows counts due read [] f c = refl
nodes_again rows counts [] read (node ∷ nodes) f c = absurd f
nodes_again rows counts (due ∷ later) read (node ∷ nodes) f c =
    let key = key_of due node in
    let rest = nodes_again rows counts (later ++ due_under key node.children) (past_node read node) nodes f.1 c.1 in
    let mine : Node = record { code = last_code key; children = child_count rows key; first_child = read.next_child; rows = row_count rows key; first_row = read.next_row } in
    let same = same_node node mine (sym (last-push due.key node.code)) (sym c.0.0) f.0.first_child (sym c.0.1) f.0.first_row in
    ap₂ (λ (n : Node) (l : List Node). n ∷ l) same
    (rest ∙ ap (λ (k : ℕ). nodes_from rows k (read.next_row + node.rows) (keys_read (later ++ due_under key node.children) nodes)) (ap (λ (k : ℕ). read.next_child + k) (sym c.0.0))
    ∙ ap (λ (k : ℕ). nodes_from rows (read.next_child + child_count rows key) k (keys_read (later ++ due_under key node.children) nodes)) (ap (λ (k : ℕ). read.next_row + k) (sym c.0.1)))

-- what node 0 keeps
pub record RootFine (counts : Counts) (root : Node) : Type 0 where
  pub code : root.code ≡ 0
  pub children : 1 + root.children ≤ counts.nodes
  pub first_child : root.first_child ≡ 1
  pub rows : root.rows ≡ 0
  pub first_row : root.first_row ≡ 0

root_fine : (counts : Counts) (root : Node) → root_fault counts at_root root ≡ None → RootFine counts root
root_fine counts root e =
    let a = checked_none (eqb root.code 0) 20 _ e in
    let b = checked_none (leb (1 + root.children) counts.nodes) 22 _ a.1 in
    let c = checked_none (eqb root.first_child 1) 24 _ b.1 in
    let d = checked_none (eqb root.rows 0) 28 _ c.1 in
    let f = checked_none (eqb root.first_row 0) 32 None d.1 in
    record {
      code = eqb-true root.code 0 a.0;
      children = leb-true (1 + root.children) counts.nodes b.0;
      first_child = eqb-true root.first_child 1 c.0;
      rows = eqb-true root.rows 0 d.0;
      first_row = eqb-true root.first_row 0 f.0;
    }

-- what all nodes keep, by the keys behind the empty one
pub record Tree (root : Node) (others : List Node) (due : List Due) (keys : List (List ℕ)) : Type 0 where
  pub lengths : length keys ≡ length others
  pub up : Up KeyBelow ([] ∷ keys)
  pub rows : due ≡ rows_due ([] ∷ keys) (root ∷ others)
  pub parents : map parent_of keys ≡ due_keys (children_due ([] ∷ keys) (root ∷ others))
  pub fit : (key : List ℕ) → In key keys → KeyFits key
  pub some : (key : List ℕ) (node : Node) → At key node keys others → 0 < node.rows + node.children
  pub no_rows : root.rows ≡ 0
  pub again : (rows : List Row) → Counted rows ([] ∷ keys) (root ∷ others) → root ∷ others ≡ nodes_from rows 1 0 ([] ∷ keys)

-- nodes that are read without a fault are such a tree
pub tree_read : (counts : Counts) (root : Node) (others : List Node) (due : List Due) → counts.nodes ≡ 1 + length others → read_all_nodes counts root others ≡ Ok due
    → (keys : List (List ℕ)) × Tree root others due keys
tree_read counts root others due n e =
    let read = past_node at_root root in
    let first = due_under [] root.children in
    let u = unless_ok (root_fault counts at_root root) (read_nodes counts first read others) due e in
    let r = root_fine counts root u.0 in
    let o = nodes_ok counts first read others due u.1 in
    let fine = o.0 in
    let keys = keys_read first others in
    let within = r.children in
    let high = total_within counts first read others fine within in
    let low = all_due counts first read others fine in
    let firsts = length-due_under [] root.children in
    let no_rows = r.rows in (
      keys,
      record {
        lengths = length-keys_read counts first read others fine;
        up = keys_rise counts [] first read others fine (queue root.children) (λ h. absurd (omega arith));
        rows = o.1 ∙ ap (λ (k : ℕ). due_under [] k ++ rows_due keys others) (sym no_rows);
        parents = parents counts first read others fine (omega arith);
        fit = keys_fit counts first read others fine (due_fits_under [] root.children refl (λ h. omega arith));
        some = has_some counts first read others fine;
        no_rows = no_rows;
        again = λ rows c.
            let rest = nodes_again rows counts first read others fine c.1 in
            let mine : Node = record { code = 0; children = child_count rows []; first_child = 1; rows = row_count rows []; first_row = 0 } in
            let same = same_node root mine r.code (sym c.0.0) r.first_child (sym c.0.1) r.first_row in
            ap₂ (λ (node : Node) (l : List Node). node ∷ l) same
            (rest ∙ ap (λ (k : ℕ). nodes_from rows (1 + k) (0 + root.rows) keys) (sym c.0.0) ∙ ap (λ (k : ℕ). nodes_from rows (1 + child_count rows []) (0 + k) keys) (sym c.0.1));
      },
    )
  where
    queue : (k : ℕ) → IsQueue [] (due_under [] k)
    queue zero = record { next = tt; links = λ d later e. absurd (none d later e); at_most = tt }
      where
        none : (d : Due) (later : List Due) → [] ≡ d ∷ later → ⊥
        none d later e = cc
    queue (suc k) = record {
      next = inr (λ code. below_shorter [] ([] ++ code ∷ []) (omega arith));
      links = λ d later e. on d later e;
      at_most = at_most_under [] (suc k);
    }
      where
        on : (d : Due) (later : List Due) → due_under [] (suc k) ≡ d ∷ later → Links d.key later
        on d later e =
            let tail : replicate k (record { key = []; first = false }) ≡ later = cc in
            let head : record { key = []; first = true } ≡ d = cc in
            subst (λ (x : Due). Links x.key later) head (subst (Links []) tail (links_others [] k))
