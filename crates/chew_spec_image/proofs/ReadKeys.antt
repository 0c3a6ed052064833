-- The keys that nodes without a fault stand for: they rise, and each has as many children and rows as its node says.
use Rattle.std.proofs.Common.{◌≡◌, ◌⊎◌, ℕ, zero, suc, ◌+◌, ◌<◌, ◌≤◌, Bool, true, false, ◌&&◌, ◌||◌, eqb, ltb, leb, List, [], ◌∷◌, ◌++◌, length, replicate, Option, None, Some, Result, Ok, Err, refl, sym, ap, ◌∙◌, subst, inl, inr, ⊎_elim, true≢false, arith}
use Rattle.std.specs.Bool.{⊤}
use Rattle.std.proofs.lemmas.Bool.{and_parts, eqb-true, leb-true, ltb-true, or_cases}
use Rattle.std.proofs.lemmas.List.{length-replicate, length_push}
use Rattle.chew_spec_syllable.specs.Syllable.{is_code}
use Rattle.chew_spec_image.specs.Fields.{Counts, Node}
use Rattle.chew_spec_image.specs.NodeKeys.{last_code, parent_of}
use Rattle.chew_spec_image.specs.ReadNodes.{Due, NodesRead, checked, due_under, node_fault, past_node, read_nodes, unless_fault, with_front}
use Rattle.chew_spec_image.proofs.KeyOrder.{KeyBelow, below_children, below_shorter, below_siblings, key_chain, last-push, parent-push, parent_last}
use Rattle.chew_spec_image.proofs.Rising.{Above, Up, above_from, above_in}

-- the key of the node that is due
abbrev pub key_of : Due → Node → List ℕ
key_of due node = due.key ++ node.code ∷ []

-- a condition that gives no fault holds, and what follows has none
pub checked_none : (b : Bool) (place : ℕ) (next : Option ℕ) → checked b place next ≡ None → (b ≡ true) × (next ≡ None)
checked_none true place next e = (refl, e)
checked_none false place next e = absurd (some_none e)
  where
    some_none : Some place ≡ None → ⊥
    some_none e = cc

-- what a node without a fault keeps
pub record NodeFine (counts : Counts) (due : Due) (read : NodesRead) (node : Node) : Type 0 where
  pub code : is_code node.code ≡ true
  pub above : due.first ≡ false → read.code < node.code
  pub children : read.next_child + node.children ≤ counts.nodes
  pub deep : (suc (length due.key) < 11) ⊎ (node.children ≡ 0)
  pub first_child : node.first_child ≡ read.next_child
  pub rows : read.next_row + node.rows ≤ counts.rows
  pub some : 0 < node.rows + node.children
  pub first_row : node.first_row ≡ read.next_row

node_fine : (counts : Counts) (due : Due) (read : NodesRead) (node : Node) → node_fault counts (suc (length due.key)) due.first read node ≡ None → NodeFine counts due read node
node_fine counts due read node e =
    let len = suc (length due.key) in
    let a = checked_none (is_code node.code && (due.first || ltb read.code node.code)) read.place _ e in
    let b = checked_none (leb (read.next_child + node.children) counts.nodes && (ltb len 11 || eqb node.children 0)) (read.place + 2) _ a.1 in
    let c = checked_none (eqb node.first_child read.next_child) (read.place + 4) _ b.1 in
    let d = checked_none (leb (read.next_row + node.rows) counts.rows && ltb 0 (node.rows + node.children)) (read.place + 8) _ c.1 in
    let f = checked_none (eqb node.first_row read.next_row) (read.place + 12) None d.1 in
    let code = and_parts (is_code node.code) (due.first || ltb read.code node.code) a.0 in
    let children = and_parts (leb (read.next_child + node.children) counts.nodes) (ltb len 11 || eqb node.children 0) b.0 in
    let rows = and_parts (leb (read.next_row + node.rows) counts.rows) (ltb 0 (node.rows + node.children)) d.0 in
    record {
      code = code.0;
      above = λ other. ⊎_elim (λ (h : due.first ≡ true). absurd (true≢false (sym h ∙ other))) (λ (h : ltb read.code node.code ≡ true). ltb-true read.code node.code h) (or_cases due.first (ltb read.code node.code) code.1);
      children = leb-true (read.next_child + node.children) counts.nodes children.0;
      deep = ⊎_elim (λ (h : ltb len 11 ≡ true). inl (ltb-true len 11 h)) (λ (h : eqb node.children 0 ≡ true). inr (eqb-true node.children 0 h)) (or_cases (ltb len 11) (eqb node.children 0) children.1);
      first_child = eqb-true node.first_child read.next_child c.0;
      rows = leb-true (read.next_row + node.rows) counts.rows rows.0;
      some = ltb-true 0 (node.rows + node.children) rows.1;
      first_row = eqb-true node.first_row read.next_row f.0;
    }

-- nodes of which none has a fault
abbrev pub Fine : Counts → List Due → NodesRead → List Node → Type 0
Fine counts due read [] = ⊤
Fine counts [] read (node ∷ nodes) = ⊥
Fine counts (due ∷ later) read (node ∷ nodes) = NodeFine counts due read node × Fine counts (later ++ due_under (key_of due node) node.children) (past_node read node) nodes

-- their keys
abbrev pub keys_read : List Due → List Node → List (List ℕ)
keys_read due [] = []
keys_read [] (node ∷ nodes) = []
keys_read (due ∷ later) (node ∷ nodes) = key_of due node ∷ keys_read (later ++ due_under (key_of due node) node.children) nodes

-- what is due under the nodes of keys: as many under each as the node says
abbrev pub due_by : (Node → ℕ) → List (List ℕ) → List Node → List Due
due_by count [] nodes = []
due_by count (key ∷ keys) [] = []
due_by count (key ∷ keys) (node ∷ nodes) = due_under key (count node) ++ due_by count keys nodes

-- the rows, and the children
abbrev pub rows_due : List (List ℕ) → List Node → List Due
rows_due keys nodes = due_by (λ node. node.rows) keys nodes

abbrev pub children_due : List (List ℕ) → List Node → List Due
children_due keys nodes = due_by (λ node. node.children) keys nodes

-- what is read without a fault
pub unless_ok : {X : Type 0} (fault : Option ℕ) (next : Result X ℕ) (x : X) → unless_fault fault next ≡ Ok x → (fault ≡ None) × (next ≡ Ok x)
unless_ok None next x e = (refl, e)
unless_ok (Some place) next x e = absurd (no_ok e)
  where
    no_ok : Err place ≡ Ok x → ⊥
    no_ok e = cc

pub front_ok : {X : Type 0} (front : List X) (read : Result (List X) ℕ) (all : List X) → with_front front read ≡ Ok all → (rest : List X) × (read ≡ Ok rest) × (all ≡ front ++ rest)
front_ok front (Ok rest) all e = (rest, refl, (let same : front ++ rest ≡ all = cc in sym same))
front_ok front (Err place) all e = absurd (no_ok e)
  where
    no_ok : Err place ≡ Ok all → ⊥
    no_ok e = cc

pub nodes_ok : (counts : Counts) (due : List Due) (read : NodesRead) (nodes : List Node) (rows : List Due) → read_nodes counts due read nodes ≡ Ok rows
    → Fine counts due read nodes × (rows ≡ rows_due (keys_read due nodes) nodes)
nodes_ok counts due read [] rows e = (tt, (let same : [] ≡ rows = cc in sym same))
nodes_ok counts [] read (node ∷ nodes) rows e = absurd (no_ok e)
  where
    no_ok : Err read.place ≡ Ok rows → ⊥
    no_ok e = cc
nodes_ok counts (due ∷ later) read (node ∷ nodes) rows e =
    let key = key_of due node in
    let u = unless_ok (node_fault counts (suc (length due.key)) due.first read node) (with_front (due_under key node.rows) (read_nodes counts (later ++ due_under key node.children) (past_node read node) nodes)) rows e in
    let f = front_ok (due_under key node.rows) (read_nodes counts (later ++ due_under key node.children) (past_node read node) nodes) rows u.1 in
    let r = nodes_ok counts (later ++ due_under key node.children) (past_node read node) nodes f.0 f.1 in
    ((node_fine counts due read node u.0, r.0), f.2 ∙ ap (λ (l : List Due). due_under key node.rows ++ l) r.1)

-- how many there are
pub length-due_under : (key : List ℕ) (n : ℕ) → length (due_under key n) ≡ n
length-due_under key zero = refl
length-due_under key (suc n) = let others : Due = record { key = key; first = false } in let l = length-replicate n others in omega arith

-- keys of nodes that are due are as many as the nodes
pub length-keys_read : (counts : Counts) (due : List Due) (read : NodesRead) (nodes : List Node) → Fine counts due read nodes → length (keys_read due nodes) ≡ length nodes
length-keys_read counts due read [] f = refl
length-keys_read counts [] read (node ∷ nodes) f = absurd f
length-keys_read counts (due ∷ later) read (node ∷ nodes) f = let l = length-keys_read counts (later ++ due_under (key_of due node) node.children) (past_node read node) nodes f.1 in omega arith

-- the order of what is due: the keys don't fall, and rise where a first child is due
abbrev pub Links : List ℕ → List Due → Type 0
Links key [] = ⊤
Links key (due ∷ later) = (((due.first ≡ false) × (due.key ≡ key)) ⊎ KeyBelow key due.key) × Links due.key later

-- none of the keys is above one
abbrev pub AtMost : List ℕ → List Due → Type 0
AtMost key [] = ⊤
AtMost key (due ∷ later) = ((due.key ≡ key) ⊎ KeyBelow due.key key) × AtMost key later

-- the first that is due comes behind the last node that was read
abbrev pub Next : List ℕ → List Due → Type 0
Next last [] = ⊤
Next last (due ∷ later) = (((due.first ≡ false) × (due.key ≡ parent_of last)) × (0 < length last)) ⊎ ((code : ℕ) → KeyBelow last (due.key ++ code ∷ []))

-- what is due under one key is linked
pub links_others : (key : List ℕ) (n : ℕ) → Links key (replicate n (record { key = key; first = false }))
links_others key zero = tt
links_others key (suc n) = (inl (refl, refl), links_others key n)

pub links_under : (before key : List ℕ) (n : ℕ) → KeyBelow before key → Links before (due_under key n)
links_under before key zero b = tt
links_under before key (suc n) b = (inr b, links_others key n)

-- links go on behind others
at_most_below : (key new : List ℕ) (old : List ℕ) → (old ≡ key) ⊎ KeyBelow old key → KeyBelow key new → KeyBelow old new
at_most_below key new old (inl e) b = subst (λ (k : List ℕ). KeyBelow k new) (sym e) b
at_most_below key new old (inr c) b = key_chain old key new c b

pub links_more : (before last new : List ℕ) (due : List Due) (n : ℕ) → Links before due → (before ≡ last) ⊎ KeyBelow before last → AtMost last due → KeyBelow last new → Links before (due ++ due_under new n)
links_more before last new [] n l m a b = links_under before new n (at_most_below last new before m b)
links_more before last new (due ∷ later) n l m a b = (l.0, links_more due.key last new later n l.1 a.0 a.1 b)

at_most_replicate : (key : List ℕ) (n : ℕ) (d : Due) → d.key ≡ key → AtMost key (replicate n d)
at_most_replicate key zero d e = tt
at_most_replicate key (suc n) d e = (inl e, at_most_replicate key n d e)

pub at_most_under : (key : List ℕ) (n : ℕ) → AtMost key (due_under key n)
at_most_under key zero = tt
at_most_under key (suc n) = (inl refl, at_most_replicate key n (record { key = key; first = false }) refl)

at_most_up : (last new : List ℕ) (due : List Due) → AtMost last due → KeyBelow last new → AtMost new due
at_most_up last new [] a b = tt
at_most_up last new (due ∷ later) a b = (inr (at_most_below last new due.key a.0 b), at_most_up last new later a.1 b)

at_most_append : (key : List ℕ) (due more : List Due) → AtMost key due → AtMost key more → AtMost key (due ++ more)
at_most_append key [] more a b = b
at_most_append key (due ∷ later) more a b = (a.0, at_most_append key later more a.1 b)

-- the next key is above the last
next_above : (counts : Counts) (last : List ℕ) (due : Due) (later : List Due) (read : NodesRead) (node : Node) → NodeFine counts due read node → Next last (due ∷ later)
    → (0 < length last → read.code ≡ last_code last) → KeyBelow last (key_of due node)
next_above counts last due later read node f (inr above) code = above node.code
next_above counts last due later read node f (inl same) code =
    let low = f.above same.0.0 in
    let c = code same.1 in
    let mine : last ≡ due.key ++ last_code last ∷ [] = parent_last last same.1 ∙ ap (λ (k : List ℕ). k ++ last_code last ∷ []) (sym same.0.1) in
    subst (λ (k : List ℕ). KeyBelow k (key_of due node)) (sym mine) (below_siblings due.key (last_code last) node.code (omega arith))

-- and what is due behind it comes behind it
next_behind : (due : Due) (later : List Due) (node : Node) → Links due.key later → Next (key_of due node) (later ++ due_under (key_of due node) node.children)
next_behind due [] node l = by node.children
  where
    by : (n : ℕ) → Next (key_of due node) (due_under (key_of due node) n)
    by zero = tt
    by (suc n) = inr (λ code. below_shorter (key_of due node) (key_of due node ++ code ∷ []) (let a = length_push (key_of due node) code in omega arith))
next_behind due (next ∷ later) node l = ⊎_elim
    (λ (same : (next.first ≡ false) × (next.key ≡ due.key)). inl ((same.0, same.1 ∙ sym (parent-push due.key node.code)), (let a = length_push due.key node.code in omega arith)))
    (λ (b : KeyBelow due.key next.key). inr (λ code. below_children due.key next.key node.code code b))
    l.0

-- what links the nodes that are due to the last one read
pub record IsQueue (last : List ℕ) (due : List Due) : Type 0 where
  pub next : Next last due
  pub links : (d : Due) (later : List Due) → due ≡ d ∷ later → Links d.key later
  pub at_most : AtMost last due

-- so the keys rise
pub keys_rise : (counts : Counts) (last : List ℕ) (due : List Due) (read : NodesRead) (nodes : List Node) → Fine counts due read nodes → IsQueue last due → (0 < length last → read.code ≡ last_code last)
    → Above KeyBelow last (keys_read due nodes) × Up KeyBelow (keys_read due nodes)
keys_rise counts last due read [] f q code = (tt, tt)
keys_rise counts last [] read (node ∷ nodes) f q code = absurd f
keys_rise counts last (due ∷ later) read (node ∷ nodes) f q code =
    let key = key_of due node in
    let above = next_above counts last due later read node f.0 q.next code in
    let more = later ++ due_under key node.children in
    let links = q.links due later refl in
    let queue : IsQueue key more = record {
      next = next_behind due later node links;
      links = λ d rest e. links_behind d rest e links above;
      at_most = at_most_append key later (due_under key node.children) (at_most_up last key later q.at_most.1 above) (at_most_under key node.children);
    } in
    let rest = keys_rise counts key more (past_node read node) nodes f.1 queue (λ h. sym (last-push due.key node.code)) in
    ((above, above_from KeyBelow last (keys_read more nodes) (λ y i. key_chain last key y above (above_in KeyBelow key y (keys_read more nodes) rest.0 i))), rest)
  where
    behind : (rest_due : List Due) → Links due.key rest_due → AtMost last rest_due → KeyBelow last (key_of due node) → (d : Due) (rest : List Due) → rest_due ++ due_under (key_of due node) node.children ≡ d ∷ rest → Links d.key rest
    behind [] l a b d rest e = by node.children e
      where
        by : (n : ℕ) → due_under (key_of due node) n ≡ d ∷ rest → Links d.key rest
        by zero e = absurd (none e)
          where
            none : [] ≡ d ∷ rest → ⊥
            none e = cc
        by (suc n) e =
            let same : replicate n (record { key = key_of due node; first = false }) ≡ rest = cc in
            let head : record { key = key_of due node; first = true } ≡ d = cc in
            let k : key_of due node ≡ d.key = ap (λ (x : Due). x.key) head in
            subst (λ (x : List ℕ). Links x rest) k (subst (Links (key_of due node)) same (links_others (key_of due node) n))
    behind (next ∷ others) l a b d rest e =
        let head : next ≡ d = cc in
        let tail : others ++ due_under (key_of due node) node.children ≡ rest = cc in
        subst (λ (x : Due). Links x.key rest) head (subst (Links next.key) tail (links_more next.key last (key_of due node) others node.children l.1 a.0 a.1 b))

    links_behind : (d : Due) (rest : List Due) → later ++ due_under (key_of due node) node.children ≡ d ∷ rest → Links due.key later → KeyBelow last (key_of due node) → Links d.key rest
    links_behind d rest e l b = behind later l q.at_most.1 b d rest e
