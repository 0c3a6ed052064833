-- A key is found by its codes, one after the other, among the children of a node.
use Rattle.std.proofs.Common.{◌≡◌, ◌⊎◌, ℕ, ◌+◌, ◌-◌, ◌<◌, ◌≤◌, List, [], ◌∷◌, ◌++◌, length, get_or, take, sym, ap, ◌∙◌, subst, ⊎_elim, Option, None, Some, Less, Greater, nat_cmp, arith}
use Rattle.std.specs.Option.{IfNone, IfSome}
use Rattle.std.proofs.lemmas.Bool.{cases_order}
use Rattle.std.proofs.lemmas.Cmp.{ranked}
use Rattle.std.proofs.lemmas.List.{take_more}
use Rattle.chew_spec_syllable.specs.Row.{Row}
use Rattle.chew_spec_image.specs.Fields.{Node}
use Rattle.chew_spec_image.specs.NodeKeys.{node_keys}
use Rattle.chew_spec_image.proofs.NodeKeys.{keys_root}
use Rattle.chew_spec_image.proofs.Rising.{In}
use Rattle.chew_trie_read.specs.Search.{CodesRise, IsNode, code_at, key_at}
use Rattle.chew_trie_read.proofs.Places.{child_found, child_is, children_within, codes_rise, front_in, get_in, in_get}

-- no node from one place up to another has the code
abbrev pub NoCode : List Row → (low high code : ℕ) → Type 0
NoCode rows low high code = (i : ℕ) → low ≤ i → i < high → code_at rows i ≡ code → ⊥

-- where the middle one's code is below, it is among the later ones or nowhere
pub search_later : (rows : List Row) (low middle high code : ℕ) → low ≤ middle → middle < high → code_at rows middle < code
    → (CodesRise rows (middle + 1) high → NoCode rows (middle + 1) high code) → CodesRise rows low high → NoCode rows low high code
search_later rows low middle high code l m b later rise i from upto e = ⊎_elim
    (λ (same : i ≡ middle). let s = ap (code_at rows) same in omega arith)
    (λ (o : (i < middle) ⊎ (middle < i)). ⊎_elim
    (λ (before : i < middle). let r = rise i middle from before m in omega arith)
    (λ (after : middle < i). later (λ j k g h t. rise j k (omega arith) h t) i (omega arith) upto e) o)
    (cases_order i middle)

-- where it is above, among the earlier ones
pub search_earlier : (rows : List Row) (low middle high code : ℕ) → low ≤ middle → middle < high → code < code_at rows middle
    → (CodesRise rows low middle → NoCode rows low middle code) → CodesRise rows low high → NoCode rows low high code
search_earlier rows low middle high code l m b earlier rise i from upto e = ⊎_elim
    (λ (same : i ≡ middle). let s = ap (code_at rows) same in omega arith)
    (λ (o : (i < middle) ⊎ (middle < i)). ⊎_elim
    (λ (before : i < middle). earlier (λ j k g h t. rise j k g h (omega arith)) i from before e)
    (λ (after : middle < i). let r = rise middle i l after upto in omega arith) o)
    (cases_order i middle)

-- the codes of the children of a node rise
pub children_rise : (rows : List Row) (i : ℕ) (node : Node) → IsNode rows i node → CodesRise rows node.first_child (node.first_child + node.children)
children_rise rows i node n j k from less upto =
    let f = codes_rise rows i (j - node.first_child) (k - node.first_child) node n (omega arith) (omega arith) in
    let a : node.first_child + (j - node.first_child) ≡ j = omega arith in
    let b : node.first_child + (k - node.first_child) ≡ k = omega arith in
    subst (λ (x : ℕ). code_at rows x < code_at rows k) a (subst (λ (x : ℕ). code_at rows (node.first_child + (j - node.first_child)) < code_at rows x) b f)

-- the child of this code
pub child_key : (rows : List Row) (i child code : ℕ) (node : Node) → IsNode rows i node → node.first_child ≤ child → child < node.first_child + node.children → code_at rows child ≡ code
    → key_at rows child ≡ key_at rows i ++ code ∷ []
child_key rows i child code node n from upto e =
    let m = child - node.first_child in
    let a : node.first_child + m ≡ child = omega arith in
    subst (λ (x : ℕ). key_at rows x ≡ key_at rows i ++ code_at rows x ∷ []) a (child_is rows i m node n (omega arith)) ∙ ap (λ (c : ℕ). key_at rows i ++ c ∷ []) e

-- and there is none where no child has it
pub no_child : (rows : List Row) (i code : ℕ) (node : Node) → IsNode rows i node → NoCode rows node.first_child (node.first_child + node.children) code
    → (child : ℕ) → child < length (node_keys rows) → key_at rows child ≡ key_at rows i ++ code ∷ [] → ⊥
no_child rows i code node n none child within e =
    let f = child_found rows i code node n (subst (λ (k : List ℕ). In k (node_keys rows)) e (in_get (node_keys rows) child [] within)) in
    let h = f.1 in
    none (node.first_child + f.0) (omega arith) (omega arith) f.2

-- node 0 has the empty key
pub root_key : (rows : List Row) → key_at rows 0 ≡ []
root_key rows = ap (λ (keys : List (List ℕ)). get_or keys 0 []) (keys_root rows)

pub root_within : (rows : List Row) → 0 < length (node_keys rows)
root_within rows = let l = ap length (keys_root rows) in omega arith

-- one code more
pub next_key : (rows : List Row) (key : List ℕ) (n node child code item : ℕ) → n < length key → code ≡ item → item ≡ get_or key n item → key_at rows node ≡ take n key
    → key_at rows child ≡ key_at rows node ++ code ∷ [] → key_at rows child ≡ take (n + 1) key
next_key rows key n node child code item h same is at e =
    e ∙ ap (λ (k : List ℕ). k ++ code ∷ []) at ∙ ap (λ (x : ℕ). take n key ++ x ∷ []) (same ∙ is) ∙ sym (take_more key n item h)

-- a key isn't there where a front of it isn't
pub no_key : (rows : List Row) (key : List ℕ) (n node code item : ℕ) → n < length key → code ≡ item → item ≡ get_or key n item → key_at rows node ≡ take n key
    → ((child : ℕ) → child < length (node_keys rows) → key_at rows child ≡ key_at rows node ++ code ∷ [] → ⊥)
    → (i : ℕ) → i < length (node_keys rows) → key_at rows i ≡ key → ⊥
no_key rows key n node code item h same is at none i within e =
    let there = front_in rows (length key) key (n + 1) (omega arith) (subst (λ (k : List ℕ). In k (node_keys rows)) e (in_get (node_keys rows) i [] within)) in
    let f = get_in (take (n + 1) key) (node_keys rows) [] there in
    none f.0 f.1 (f.2 ∙ take_more key n item h ∙ ap (λ (x : ℕ). take n key ++ x ∷ []) (sym (same ∙ is)) ∙ ap (λ (k : List ℕ). k ++ code ∷ []) (sym at))

-- what a search among the children says of the child
pub child_some : (rows : List Row) (i code : ℕ) (node : Node) (o : Option ℕ) → IsNode rows i node → IfSome o (λ c. node.first_child ≤ c) → IfSome o (λ c. c < node.first_child + node.children)
    → IfSome o (λ c. code_at rows c ≡ code) → IfSome o (λ c. key_at rows c ≡ key_at rows i ++ code ∷ [])
child_some rows i code node None n from upto at = tt
child_some rows i code node (Some child) n from upto at = child_key rows i child code node n from upto at

pub child_within : (rows : List Row) (i : ℕ) (node : Node) (o : Option ℕ) → IsNode rows i node → IfSome o (λ c. c < node.first_child + node.children) → IfSome o (λ c. c < length (node_keys rows))
child_within rows i node None n upto = tt
child_within rows i node (Some child) n upto = let w = children_within rows i node n in omega arith

pub child_none : (rows : List Row) (i code : ℕ) (node : Node) (o : Option ℕ) → IsNode rows i node
    → IfNone o (CodesRise rows node.first_child (node.first_child + node.children) → NoCode rows node.first_child (node.first_child + node.children) code)
    → IfNone o ((child : ℕ) → child < length (node_keys rows) → key_at rows child ≡ key_at rows i ++ code ∷ [] → ⊥)
child_none rows i code node None n none = no_child rows i code node n (none (children_rise rows i node n))
child_none rows i code node (Some child) n none = tt

-- a code that compares as less is less, and one that compares as greater is greater
less_code : (mine code : ℕ) → Less ≡ nat_cmp mine code → mine < code
less_code mine code e = ranked mine code Less e

greater_code : (mine code : ℕ) → Greater ≡ nat_cmp mine code → code < mine
greater_code mine code e = ranked mine code Greater e

-- what a search among fewer nodes says of all
pub searched_later : (rows : List Row) (low middle high code mine : ℕ) (o : Option ℕ) → low ≤ middle → middle < high → mine ≡ code_at rows middle → Less ≡ nat_cmp mine code
    → IfNone o (CodesRise rows (middle + 1) high → NoCode rows (middle + 1) high code) → IfNone o (CodesRise rows low high → NoCode rows low high code)
searched_later rows low middle high code mine None l m is b none = search_later rows low middle high code l m (let less = less_code mine code b in omega arith) none
searched_later rows low middle high code mine (Some i) l m is b none = tt

pub searched_earlier : (rows : List Row) (low middle high code mine : ℕ) (o : Option ℕ) → low ≤ middle → middle < high → mine ≡ code_at rows middle → Greater ≡ nat_cmp mine code
    → IfNone o (CodesRise rows low middle → NoCode rows low middle code) → IfNone o (CodesRise rows low high → NoCode rows low high code)
searched_earlier rows low middle high code mine None l m is b none = search_earlier rows low middle high code l m (let greater = greater_code mine code b in omega arith) none
searched_earlier rows low middle high code mine (Some i) l m is b none = tt
