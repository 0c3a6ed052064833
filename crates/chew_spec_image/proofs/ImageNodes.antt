-- The nodes of rows are read without a fault, and the rows that are due are these rows.
use Rattle.std.proofs.Common.{◌≡◌, ◌⊎◌, ℕ, suc, ◌+◌, ◌-◌, ◌<◌, ◌≤◌, Bool, true, false, ◌&&◌, ◌||◌, eqb, leb, ltb, List, [], ◌∷◌, ◌++◌, length, take, drop, replicate, Option, None, Result, Ok, refl, sym, ap, ◌∙◌, subst, inl, inr, ⊎_elim, true≢false, arith}
use Rattle.std.specs.Bool.{⊤}
use Rattle.std.specs.List.{flat_map, list_all}
use Rattle.std.proofs.lemmas.Bool.{and_from, cases_lt, eq-eqb, le-leb, lt-ltb, or_left, or_right}
use Rattle.std.proofs.lemmas.List.{append_assoc, length-append, length-take-le, map-append, take-take, take_all}
use Rattle.std.proofs.lemmas.Slice.Eq.{bytes_eq-Decides}
use Rattle.chew_spec_syllable.specs.Row.{Row, is_row}
use Rattle.chew_spec_syllable.specs.Syllable.{is_code}
use Rattle.chew_spec_dictionary.specs.Dictionary.{is_map}
use Rattle.chew_spec_dictionary.specs.System.{is_under, rows_under}
use Rattle.chew_spec_image.specs.Fields.{Counts, Node}
use Rattle.chew_spec_image.specs.Image.{child_count, counts_of, nodes_from, row_count}
use Rattle.chew_spec_image.specs.NodeKeys.{is_child, last_code, node_keys, parent_of}
use Rattle.chew_spec_image.specs.ReadNodes.{Due, NodesRead, at_root, checked, due_under, node_fault, past_node, read_all_nodes, read_nodes, root_fault, unless_fault, with_front}
use Rattle.chew_spec_image.proofs.Bounds.{node_code, node_length, row_in}
use Rattle.chew_spec_image.proofs.Counting.{due_keys}
use Rattle.chew_spec_image.proofs.Families.{children_in, children_joined, rows_joined, under_key}
use Rattle.chew_spec_image.proofs.KeyOrder.{KeyBelow, below_parent, child_from, child_parts, key_never, length-parent, parent_last, siblings_below}
use Rattle.chew_spec_image.proofs.NodeKeys.{IsPrefix, key_from, keys_up, prefix_in}
use Rattle.chew_spec_image.proofs.ReadKeys.{key_of}
use Rattle.chew_spec_image.proofs.Rising.{Above, In, Up, above_in, in_filter, in_passing, in_append}
use Rattle.chew_spec_image.proofs.SameKeys.{in_under}

-- a condition that holds gives no fault
pub checked_true : (b : Bool) (place : ℕ) (next : Option ℕ) → b ≡ true → next ≡ None → checked b place next ≡ None
checked_true true place next e n = n
checked_true false place next e n = absurd (true≢false (sym e))

-- what is due under keys
abbrev pub dues : (List ℕ → ℕ) → List (List ℕ) → List Due
dues count [] = []
dues count (key ∷ keys) = due_under key (count key) ++ dues count keys

-- what is due, beside the keys that come: the key of each is the parent, and those that aren't first follow one of theirs
abbrev pub Follows : List ℕ → List Due → List (List ℕ) → Type 0
Follows last [] [] = ⊤
Follows last [] (key ∷ keys) = ⊥
Follows last (due ∷ later) [] = ⊥
Follows last (due ∷ later) (key ∷ keys) = (due.key ≡ parent_of key) × (due.first ≡ false → (parent_of last ≡ parent_of key) × (0 < length last)) × Follows key later keys

-- children of one key behind one of theirs, and all children of a key
follows_others : (parent last : List ℕ) (keys : List (List ℕ)) (due : List Due) (rest : List (List ℕ)) → parent_of last ≡ parent → 0 < length last
    → ((key : List ℕ) → In key keys → is_child parent key ≡ true) → ((key : List ℕ) → Follows key due rest)
    → Follows last (replicate (length keys) (record { key = parent; first = false }) ++ due) (keys ++ rest)
follows_others parent last [] due rest p h each behind = behind last
follows_others parent last (key ∷ keys) due rest p h each behind =
    let c = child_parts parent key (each key (inl refl)) in
    (sym c.1, (λ _. (p ∙ sym c.1, h)), follows_others parent key keys due rest c.1 c.0 (λ k i. each k (inr i)) behind)

follows_family : (parent last : List ℕ) (keys : List (List ℕ)) (due : List Due) (rest : List (List ℕ)) → ((key : List ℕ) → In key keys → is_child parent key ≡ true) → ((key : List ℕ) → Follows key due rest)
    → Follows last (due_under parent (length keys) ++ due) (keys ++ rest)
follows_family parent last [] due rest each behind = behind last
follows_family parent last (key ∷ keys) due rest each behind =
    let c = child_parts parent key (each key (inl refl)) in
    (sym c.1, (λ no_first. absurd (true≢false no_first)), follows_others parent key keys due rest c.1 c.0 (λ k i. each k (inr i)) behind)

follows_all : (rows : List Row) (parents : List (List ℕ)) (last : List ℕ) → Follows last (dues (child_count rows) parents) (flat_map (children_in (node_keys rows)) parents)
follows_all rows [] last = tt
follows_all rows (parent ∷ parents) last = follows_family parent last (children_in (node_keys rows) parent) (dues (child_count rows) parents) (flat_map (children_in (node_keys rows)) parents)
    (λ key i. (in_filter (is_child parent) key (node_keys rows) i).1) (λ key. follows_all rows parents key)

-- the keys of what is due
due_key_in : (count : List ℕ → ℕ) (keys : List (List ℕ)) (due : Due) (later : List Due) → dues count keys ≡ due ∷ later → In due.key keys
due_key_in count keys due later e = by keys (subst (λ (l : List Due). In due.key (due_keys l)) (sym e) (inl refl))
  where
    by : (some : List (List ℕ)) → In due.key (due_keys (dues count some)) → In due.key some
    by [] i = absurd i
    by (key ∷ some) i = ⊎_elim
        (λ (h : In due.key (due_keys (due_under key (count key)))). inl (in_under due.key key (count key) h))
        (λ (h : In due.key (due_keys (dues count some))). inr (by some h))
        (in_append due.key (due_keys (due_under key (count key))) (due_keys (dues count some)) (subst (In due.key) (map-append (λ (d : Due). d.key) (due_under key (count key)) (dues count some)) i))

-- a sum over keys
abbrev pub total : (List ℕ → ℕ) → List (List ℕ) → ℕ
total count [] = 0
total count (key ∷ keys) = count key + total count keys

-- what each node's key keeps
pub record NodeIs (rows : List Row) (key : List ℕ) : Type 0 where
  pub some : 0 < length key
  pub code : is_code (last_code key) ≡ true
  pub few : length key ≤ 11
  pub deep : length key ≡ 11 → child_count rows key ≡ 0
  pub used : 0 < row_count rows key + child_count rows key

-- the keys that come are read
walk : (rows : List Row) (counts : Counts) (last : List ℕ) (due : List Due) (read : NodesRead) (keys : List (List ℕ))
    → Follows last (due ++ dues (child_count rows) keys) keys → Above KeyBelow last keys → Up KeyBelow keys → ((key : List ℕ) → In key keys → NodeIs rows key)
    → read.code ≡ last_code last → read.next_child + total (child_count rows) keys ≤ counts.nodes → read.next_row + total (row_count rows) keys ≤ counts.rows
    → read_nodes counts due read (nodes_from rows read.next_child read.next_row keys) ≡ Ok (dues (row_count rows) keys)
walk rows counts last due read [] f a u is code c r = refl
walk rows counts last [] read (key ∷ keys) f a u is code c r = absurd (by (dues (child_count rows) (key ∷ keys)) refl f)
  where
    too_low : (due : Due) → In due.key (key ∷ keys) → due.key ≡ parent_of key → ⊥
    too_low due i e = let low = below_parent key (is key (inl refl)).some in
        let l = length-parent key in let s = (is key (inl refl)).some in
        ⊎_elim
        (λ (h : due.key ≡ key). let n = ap length (sym h ∙ e) in absurd (omega arith))
        (λ (h : In due.key keys). let b = above_in KeyBelow key due.key keys u.0 h in
        let b2 : KeyBelow key (parent_of key) = subst (KeyBelow key) e b in key_never key (parent_of key) b2 low) i

    by : (all : List Due) → dues (child_count rows) (key ∷ keys) ≡ all → Follows last all (key ∷ keys) → ⊥
    by [] e f = f
    by (due ∷ later) e f = too_low due (due_key_in (child_count rows) (key ∷ keys) due later e) f.0
walk rows counts last (due ∷ later) read (key ∷ keys) f a u is code c r =
    let here = is key (inl refl) in
    let node : Node = record { code = last_code key; children = child_count rows key; first_child = read.next_child; rows = row_count rows key; first_row = read.next_row } in
    let mine : key_of due node ≡ key = ap (λ (k : List ℕ). k ++ last_code key ∷ []) f.0 ∙ sym (parent_last key here.some) in
    let len : suc (length due.key) ≡ length key = let l = length-parent key in let s = here.some in let e = ap length f.0 in omega arith in
    let above : (due.first || ltb read.code (last_code key)) ≡ true = first_or_above due.first refl in
    let deep : (ltb (suc (length due.key)) 11 || eqb (child_count rows key) 0) ≡ true = shallow (suc (length due.key)) len in
    let used = here.used in
    let fault : node_fault counts (suc (length due.key)) due.first read node ≡ None =
    checked_true (is_code (last_code key) && (due.first || ltb read.code (last_code key))) read.place _ (and_from (is_code (last_code key)) _ here.code above)
    (checked_true (leb (read.next_child + child_count rows key) counts.nodes && (ltb (suc (length due.key)) 11 || eqb (child_count rows key) 0)) (read.place + 2) _
    (and_from (leb (read.next_child + child_count rows key) counts.nodes) _ (le-leb (read.next_child + child_count rows key) counts.nodes (omega arith)) deep)
    (checked_true (eqb read.next_child read.next_child) (read.place + 4) _ (eq-eqb read.next_child read.next_child refl)
    (checked_true (leb (read.next_row + row_count rows key) counts.rows && ltb 0 (row_count rows key + child_count rows key)) (read.place + 8) _
    (and_from (leb (read.next_row + row_count rows key) counts.rows) _ (le-leb (read.next_row + row_count rows key) counts.rows (omega arith)) (lt-ltb 0 (row_count rows key + child_count rows key) used))
    (checked_true (eqb read.next_row read.next_row) (read.place + 12) None (eq-eqb read.next_row read.next_row refl) refl)))) in
    let more = later ++ due_under key (child_count rows key) in
    let behind : Follows key (more ++ dues (child_count rows) keys) keys = subst (λ (l : List Due). Follows key l keys) (sym (append_assoc later (due_under key (child_count rows key)) (dues (child_count rows) keys))) f.2 in
    let rest = walk rows counts key more (past_node read node) keys behind u.0 u.1 (λ k i. is k (inr i)) refl (omega arith) (omega arith) in
    let next : List ℕ → Result (List Due) ℕ = λ k. read_nodes counts (later ++ due_under k (child_count rows key)) (past_node read node) (nodes_from rows (read.next_child + child_count rows key) (read.next_row + row_count rows key) keys) in
    ap (λ (o : Option ℕ). unless_fault o (with_front (due_under (key_of due node) (row_count rows key)) (next (key_of due node)))) fault
    ∙ ap (λ (k : List ℕ). with_front (due_under k (row_count rows key)) (next k)) mine
    ∙ ap (with_front (due_under key (row_count rows key))) rest
  where
    first_or_above : (b : Bool) → due.first ≡ b → (b || ltb read.code (last_code key)) ≡ true
    first_or_above true e = refl
    first_or_above false e =
        let s = f.1 e in
        let x : last ≡ parent_of key ++ last_code last ∷ [] = parent_last last s.1 ∙ ap (λ (k : List ℕ). k ++ last_code last ∷ []) s.0 in
        let y : key ≡ parent_of key ++ last_code key ∷ [] = parent_last key (is key (inl refl)).some in
        let b = siblings_below (parent_of key) (last_code last) (last_code key) (subst (λ (k : List ℕ). KeyBelow k (parent_of key ++ last_code key ∷ [])) x (subst (KeyBelow last) y a.0)) in
        lt-ltb read.code (last_code key) (let e2 = code in omega arith)

    shallow : (n : ℕ) → n ≡ length key → (ltb n 11 || eqb (child_count rows key) 0) ≡ true
    shallow n e = ⊎_elim
        (λ (h : n < 11). or_left (ltb n 11) (eqb (child_count rows key) 0) (lt-ltb n 11 h))
        (λ (h : 11 ≤ n). let few = (is key (inl refl)).few in or_right (ltb n 11) (eqb (child_count rows key) 0) (eq-eqb (child_count rows key) 0 ((is key (inl refl)).deep (omega arith))))
        (cases_lt n 11)

-- a list is empty, or has an element
empty_or : {X : Type 0} (xs : List X) → (length xs ≡ 0) ⊎ ((x : X) × In x xs)
empty_or [] = inl refl
empty_or (x ∷ xs) = inr (x, inl refl)

has_length : {X : Type 0} (x : X) (xs : List X) → In x xs → 0 < length xs
has_length x [] i = absurd i
has_length x (y ∷ ys) i = omega arith

-- the nodes of rows keep all of it
pub node_is : (rows : List Row) (key : List ℕ) → list_all is_row rows ≡ true → In key (node_keys rows) → 0 < length key → NodeIs rows key
node_is rows key each i h = record {
  some = h;
  code = node_code rows key each i h;
  few = node_length rows key each i;
  deep = λ e. ⊎_elim (λ (z : length (children_in (node_keys rows) key) ≡ 0). z)
      (λ (c : (x : List ℕ) × In x (children_in (node_keys rows) key)).
      let f = in_filter (is_child key) c.0 (node_keys rows) c.1 in
      let p = child_parts key c.0 f.1 in
      let l = length-parent c.0 in
      let n = ap length p.1 in
      let few = node_length rows c.0 each f.0 in
      let some = p.0 in
      absurd (omega arith)) (empty_or (children_in (node_keys rows) key));
  used = ⊎_elim
      (λ (e : key ≡ []). absurd (let l : length key ≡ 0 = ap length e in omega arith))
      (λ (r : (row : Row) × In row rows × IsPrefix key row.key). by r.0 r.1 r.2)
      (key_from key rows i);
}
  where
    by : (row : Row) → In row rows → IsPrefix key row.key → 0 < row_count rows key + child_count rows key
    by row j p =
        let within = p.within in
        let some = p.some in
        let l : length key ≡ p.len = ap length p.taken ∙ length-take-le p.len row.key within in
        ⊎_elim
        (λ (deeper : p.len < length row.key).
        let child = take (suc p.len) row.key in
        let cl : length child ≡ suc p.len = length-take-le (suc p.len) row.key (omega arith) in
        let there = prefix_in child row rows j (record { len = suc p.len; some = omega arith; within = omega arith; taken = refl }) in
        let n : length child - 1 ≡ p.len = omega arith in
        let parent : parent_of child ≡ key = ap (λ (k : ℕ). take k child) n ∙ take-take p.len (suc p.len) row.key (omega arith) ∙ sym p.taken in
        let c = has_length child (children_in (node_keys rows) key) (in_passing (is_child key) child (node_keys rows) there (child_from key child (omega arith) parent)) in
        omega arith)
        (λ (whole : length row.key ≤ p.len).
        let same : row.key ≡ key = sym (take_all p.len row.key whole) ∙ sym p.taken in
        let c = has_length row (rows_under rows key) (in_passing (is_under key) row rows j ((bytes_eq-Decides row.key key).1 same)) in
        omega arith)
        (cases_lt p.len (length row.key))

-- how many children and rows all nodes have
pub total_children : (rows : List Row) (keys : List (List ℕ)) → total (child_count rows) keys ≡ length (flat_map (children_in (node_keys rows)) keys)
total_children rows [] = refl
total_children rows (key ∷ keys) = let t = total_children rows keys in let a = length-append (children_in (node_keys rows) key) (flat_map (children_in (node_keys rows)) keys) in omega arith

pub total_rows : (rows : List Row) (keys : List (List ℕ)) → total (row_count rows) keys ≡ length (flat_map (rows_under rows) keys)
total_rows rows [] = refl
total_rows rows (key ∷ keys) = let t = total_rows rows keys in let a = length-append (rows_under rows key) (flat_map (rows_under rows) keys) in omega arith

-- no row is under the empty key
pub no_root_rows : (rows : List Row) → list_all is_row rows ≡ true → row_count rows [] ≡ 0
no_root_rows rows each = ⊎_elim (λ (z : length (rows_under rows []) ≡ 0). z)
    (λ (c : (row : Row) × In row (rows_under rows [])).
    let f = in_filter (is_under []) c.0 rows c.1 in
    let k = ap length (under_key [] c.0 f.1) in
    let s = (row_in c.0 rows each f.0).some in
    absurd (omega arith))
    (empty_or (rows_under rows []))

-- all nodes are read
pub nodes_are_read : (rows : List Row) (keys : List (List ℕ)) (root : Node) (others : List Node) → is_map rows ≡ true → list_all is_row rows ≡ true
    → node_keys rows ≡ [] ∷ keys → root ∷ others ≡ nodes_from rows 1 0 ([] ∷ keys)
    → read_all_nodes (counts_of rows) root others ≡ Ok (dues (row_count rows) keys)
nodes_are_read rows keys root others m each k e =
    let counts = counts_of rows in
    let mine : Node = record { code = 0; children = child_count rows []; first_child = 1; rows = row_count rows []; first_row = 0 } in
    let same_root : root ≡ mine = cc in
    let same_others : others ≡ nodes_from rows (1 + child_count rows []) (0 + row_count rows []) keys = cc in
    let none = no_root_rows rows each in
    let joined : flat_map (children_in (node_keys rows)) ([] ∷ keys) ≡ keys = ap (flat_map (children_in (node_keys rows))) (sym k) ∙ children_joined rows ∙ ap (drop 1) k in
    let all_children = total_children rows ([] ∷ keys) in
    let children : total (child_count rows) ([] ∷ keys) ≡ length keys = all_children ∙ ap length joined in
    let all_rows = total_rows rows ([] ∷ keys) in
    let own : total (row_count rows) ([] ∷ keys) ≡ length rows = all_rows ∙ ap (λ (l : List (List ℕ)). length (flat_map (rows_under rows) l)) (sym k) ∙ ap length (rows_joined rows m (λ row i. (row_in row rows each i).some)) in
    let up : Up KeyBelow ([] ∷ keys) = subst (Up KeyBelow) k (keys_up rows) in
    let n : counts.nodes ≡ suc (length keys) = ap length k in
    let follows : Follows [] (due_under [] (child_count rows []) ++ dues (child_count rows) keys) keys = subst (Follows [] (dues (child_count rows) ([] ∷ keys))) joined (follows_all rows ([] ∷ keys) []) in
    let read = past_node at_root mine in
    let rest = walk rows counts [] (due_under [] (child_count rows [])) read keys follows up.0 up.1
    (λ key i. node_is rows key each (subst (In key) (sym k) (inr i)) (longer key (above_in KeyBelow [] key keys up.0 i))) refl (omega arith) (omega arith) in
    let fault : root_fault counts at_root mine ≡ None =
    checked_true (eqb 0 0) 20 _ refl
    (checked_true (leb (1 + child_count rows []) counts.nodes) 22 _ (le-leb (1 + child_count rows []) counts.nodes (omega arith))
    (checked_true (eqb 1 1) 24 _ refl
    (checked_true (eqb (row_count rows []) 0) 28 _ (eq-eqb (row_count rows []) 0 none)
    (checked_true (eqb 0 0) 32 None refl refl)))) in
    ap (λ (r : Node). read_all_nodes counts r others) same_root
    ∙ ap (read_all_nodes counts mine) same_others
    ∙ ap (λ (o : Option ℕ). unless_fault o (read_nodes counts (due_under [] (child_count rows [])) read (nodes_from rows (1 + child_count rows []) (0 + row_count rows []) keys))) fault
    ∙ rest
  where
    longer : (key : List ℕ) → KeyBelow [] key → 0 < length key
    longer [] b = absurd (key_never [] [] b b)
    longer (c ∷ key) b = omega arith
