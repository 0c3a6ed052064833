-- How often a key stands in a list: as often as its node says, among what is due under the nodes.
use Rattle.std.proofs.Common.{◌≡◌, ◌⊎◌, ℕ, zero, suc, ◌+◌, ◌<◌, Bool, true, false, ◌&&◌, cond, ltb, List, [], ◌∷◌, ◌++◌, length, map, replicate, refl, sym, ap, ◌∙◌, subst, inl, inr, ⊎_elim, arith}
use Rattle.std.specs.List.{filter}
use Rattle.std.specs.Str.{bytes_eq}
use Rattle.std.proofs.lemmas.Bool.{and_from, and_parts, both_ways, cond-false, cond-true, cond_both, false_from_ne_true, lt-ltb}
use Rattle.std.proofs.lemmas.List.{map-append}
use Rattle.std.proofs.lemmas.Slice.Eq.{bytes_eq-Decides}
use Rattle.chew_spec_syllable.specs.Row.{Row}
use Rattle.chew_spec_dictionary.specs.System.{is_under, rows_under}
use Rattle.chew_spec_image.specs.Fields.{Node}
use Rattle.chew_spec_image.specs.NodeKeys.{is_child, parent_of}
use Rattle.chew_spec_image.specs.ReadNodes.{Due, due_under}
use Rattle.chew_spec_image.proofs.KeyOrder.{KeyBelow, key_never}
use Rattle.chew_spec_image.proofs.ReadKeys.{due_by}
use Rattle.chew_spec_image.proofs.Rising.{Above, In, Up, above_in}

-- how often a key stands in a list
abbrev pub times : List ℕ → List (List ℕ) → ℕ
times key [] = 0
times key (other ∷ others) = cond (bytes_eq other key) 1 0 + times key others

times_yes : (key other : List ℕ) (others : List (List ℕ)) → other ≡ key → times key (other ∷ others) ≡ suc (times key others)
times_yes key other others e =
    ap (λ (n : ℕ). n + times key others) (cond-true (bytes_eq other key) 1 0 ((bytes_eq-Decides other key).1 e))
    ∙ (let one : 1 + times key others ≡ suc (times key others) = omega arith in one)

times_no : (key other : List ℕ) (others : List (List ℕ)) → (other ≡ key → ⊥) → times key (other ∷ others) ≡ times key others
times_no key other others n =
    ap (λ (k : ℕ). k + times key others) (cond-false (bytes_eq other key) 1 0 (false_from_ne_true (bytes_eq other key) (λ t. n ((bytes_eq-Decides other key).0 t))))
    ∙ (let none : 0 + times key others ≡ times key others = omega arith in none)

times-append : (key : List ℕ) (keys others : List (List ℕ)) → times key (keys ++ others) ≡ times key keys + times key others
times-append key [] others = omega arith
times-append key (first ∷ keys) others = let t = times-append key keys others in omega arith

-- the key of what is due
abbrev pub due_keys : List Due → List (List ℕ)
due_keys due = map (λ (d : Due). d.key) due

times_replicate : (key : List ℕ) (n : ℕ) (d : Due) → d.key ≡ key → times key (due_keys (replicate n d)) ≡ n
times_replicate key zero d e = refl
times_replicate key (suc n) d e = let t = times_replicate key n d e in let y = times_yes key d.key (due_keys (replicate n d)) e in omega arith

times_under : (key : List ℕ) (n : ℕ) → times key (due_keys (due_under key n)) ≡ n
times_under key zero = refl
times_under key (suc n) =
    let t = times_replicate key n (record { key = key; first = false }) refl in
    let y = times_yes key key (due_keys (replicate n (record { key = key; first = false }))) refl in
    omega arith

times_replicate_other : (key : List ℕ) (n : ℕ) (d : Due) → (d.key ≡ key → ⊥) → times key (due_keys (replicate n d)) ≡ 0
times_replicate_other key zero d e = refl
times_replicate_other key (suc n) d e = let t = times_replicate_other key n d e in let y = times_no key d.key (due_keys (replicate n d)) e in omega arith

times_under_other : (key other : List ℕ) (n : ℕ) → (other ≡ key → ⊥) → times key (due_keys (due_under other n)) ≡ 0
times_under_other key other zero e = refl
times_under_other key other (suc n) e =
    let t = times_replicate_other key n (record { key = other; first = false }) e in
    let y = times_no key other (due_keys (replicate n (record { key = other; first = false }))) e in
    omega arith

-- the node of a key among those of keys
abbrev pub At : List ℕ → Node → List (List ℕ) → List Node → Type 0
At key node [] nodes = ⊥
At key node (first ∷ keys) [] = ⊥
At key node (first ∷ keys) (one ∷ nodes) = ((key ≡ first) × (node ≡ one)) ⊎ At key node keys nodes

pub at_in : (key : List ℕ) (node : Node) (keys : List (List ℕ)) (nodes : List Node) → At key node keys nodes → In key keys
at_in key node [] nodes a = absurd a
at_in key node (first ∷ keys) [] a = absurd a
at_in key node (first ∷ keys) (one ∷ nodes) (inl e) = inl e.0
at_in key node (first ∷ keys) (one ∷ nodes) (inr a) = inr (at_in key node keys nodes a)

pub in_at : (key : List ℕ) (keys : List (List ℕ)) (nodes : List Node) → length keys ≡ length nodes → In key keys → (node : Node) × At key node keys nodes
in_at key [] nodes l i = absurd i
in_at key (first ∷ keys) [] l i = absurd (omega arith)
in_at key (first ∷ keys) (one ∷ nodes) l (inl e) = (one, inl (e, refl))
in_at key (first ∷ keys) (one ∷ nodes) l (inr i) = let r = in_at key keys nodes (omega arith) i in (r.0, inr r.1)

-- a key below others doesn't stand in what is due under them
times_absent : (count : Node → ℕ) (key : List ℕ) (keys : List (List ℕ)) (nodes : List Node) → Above KeyBelow key keys → times key (due_keys (due_by count keys nodes)) ≡ 0
times_absent count key [] nodes a = refl
times_absent count key (first ∷ keys) [] a = refl
times_absent count key (first ∷ keys) (node ∷ nodes) a =
    let here = times_under_other key first (count node) (λ e. let b = subst (KeyBelow key) e a.0 in key_never key key b b) in
    let later = times_absent count key keys nodes a.1 in
    let joined = ap (times key) (map-append (λ (d : Due). d.key) (due_under first (count node)) (due_by count keys nodes)) in
    let sum = times-append key (due_keys (due_under first (count node))) (due_keys (due_by count keys nodes)) in
    omega arith

-- of rising keys each stands there as often as its node says
pub times_at : (count : Node → ℕ) (key : List ℕ) (node : Node) (keys : List (List ℕ)) (nodes : List Node) → Up KeyBelow keys → At key node keys nodes → times key (due_keys (due_by count keys nodes)) ≡ count node
times_at count key node [] nodes u a = absurd a
times_at count key node (first ∷ keys) [] u a = absurd a
times_at count key node (first ∷ keys) (one ∷ nodes) u a =
    let joined = ap (times key) (map-append (λ (d : Due). d.key) (due_under first (count one)) (due_by count keys nodes)) in
    let sum = times-append key (due_keys (due_under first (count one))) (due_keys (due_by count keys nodes)) in
    ⊎_elim
    (λ (e : (key ≡ first) × (node ≡ one)).
    let here : times key (due_keys (due_under first (count one))) ≡ count one = ap (λ (k : List ℕ). times key (due_keys (due_under k (count one)))) (sym e.0) ∙ times_under key (count one) in
    let absent = times_absent count key keys nodes (subst (λ (k : List ℕ). Above KeyBelow k keys) (sym e.0) u.0) in
    let same = ap count e.1 in
    omega arith)
    (λ (b : At key node keys nodes).
    let below = above_in KeyBelow first key keys u.0 (at_in key node keys nodes b) in
    let here = times_under_other key first (count one) (λ e. let c = subst (λ (k : List ℕ). KeyBelow k key) e below in key_never key key c c) in
    let later = times_at count key node keys nodes u.1 b in
    omega arith)
    a

-- the children of a key among keys that aren't empty, counted by their parents
pub children_counted : (key : List ℕ) (keys : List (List ℕ)) → ((x : List ℕ) → In x keys → 0 < length x) → length (filter (is_child key) keys) ≡ times key (map parent_of keys)
children_counted key [] some = refl
children_counted key (first ∷ keys) some =
    let later = children_counted key keys (λ x i. some x (inr i)) in
    let long : ltb 0 (length first) ≡ true = lt-ltb 0 (length first) (some first (inl refl)) in
    cond_both (is_child key first) (first ∷ filter (is_child key) keys) (filter (is_child key) keys) (λ (l : List (List ℕ)). length l ≡ times key (map parent_of (first ∷ keys)))
    (λ yes. let y = times_yes key (parent_of first) (map parent_of keys) ((bytes_eq-Decides (parent_of first) key).0 (second (ltb 0 (length first)) (bytes_eq (parent_of first) key) yes)) in omega arith)
    (λ other. let y = times_no key (parent_of first) (map parent_of keys) (λ e. both (ltb 0 (length first)) (bytes_eq (parent_of first) key) long ((bytes_eq-Decides (parent_of first) key).1 e) other) in omega arith)
  where
    second : (a b : Bool) → (a && b) ≡ true → b ≡ true
    second a b e = (and_parts a b e).1

    both : (a b : Bool) → a ≡ true → b ≡ true → (a && b) ≡ false → ⊥
    both a b p q f = both_ways (a && b) f (and_from a b p q)

-- the rows of a key, counted by their keys
pub rows_counted : (key : List ℕ) (rows : List Row) → length (rows_under rows key) ≡ times key (map (λ (row : Row). row.key) rows)
rows_counted key [] = refl
rows_counted key (row ∷ rows) =
    let later = rows_counted key rows in
    cond_both (is_under key row) (row ∷ rows_under rows key) (rows_under rows key) (λ (l : List Row). length l ≡ times key (map (λ (r : Row). r.key) (row ∷ rows)))
    (λ yes. let y = times_yes key row.key (map (λ (r : Row). r.key) rows) ((bytes_eq-Decides row.key key).0 yes) in omega arith)
    (λ other. let y = times_no key row.key (map (λ (r : Row). r.key) rows) (λ e. both_ways (bytes_eq row.key key) other ((bytes_eq-Decides row.key key).1 e)) in omega arith)
