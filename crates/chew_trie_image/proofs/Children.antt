-- One child more, of those that are due, and its rows.
use Rattle.std.proofs.Common.{◌≡◌, ℕ, zero, suc, ◌+◌, ◌-◌, ◌*◌, ◌<◌, ◌≤◌, Bool, eqb, List, [], ◌∷◌, ◌++◌, length, drop, Option, None, Some, Result, Ok, Err, refl, ap, sym, ◌∙◌, sum_by, arith}
use Rattle.std.proofs.lemmas.List.{append-nil, append_assoc, drop_all, length-append, length-replicate}
use Rattle.std.proofs.lemmas.List.Sums.{sum_by-append}
use Rattle.chew_spec_image.specs.Fields.{Counts, Node, node_at, nodes_at}
use Rattle.chew_spec_image.specs.ReadNodes.{Due, NodesRead, checked, due_under, node_fault, past_node, read_nodes, unless_fault, with_front}
use Rattle.chew_spec_image.specs.ReadRows.{RowsRead}
use Rattle.chew_trie_image.specs.Walk.{due_of_children, fault_ahead, fault_behind, fault_once_read}
use Rattle.chew_trie_image.specs.declared.fault.ImageFault.{ImageFault}
use Rattle.chew_trie_image.proofs.Steps.{due_more}

-- how many are due under a key
pub length-due : (key : List ℕ) (n : ℕ) → length (due_under key n) ≡ n
length-due key zero = refl
length-due key (suc n) = let others : Due = record { key = key; first = Bool.false } in let l = length-replicate n others in omega arith

-- nodes, and more nodes behind them
pub nodes_at-add : (bytes : List ℕ) (place a b : ℕ) → nodes_at bytes place (a + b) ≡ nodes_at bytes place a ++ nodes_at bytes (place + 16 * a) b
nodes_at-add bytes place zero b = let n : zero + b ≡ b = omega arith in let p : place ≡ place + 16 * zero = omega arith in
    ap (nodes_at bytes place) n ∙ ap (λ (k : ℕ). nodes_at bytes k b) p
nodes_at-add bytes place (suc a) b =
    let n : suc a + b ≡ suc (a + b) = omega arith in
    let p : (place + 16) + 16 * a ≡ place + 16 * suc a = omega arith in
    ap (nodes_at bytes place) n
    ∙ ap (λ (l : List Node). node_at bytes place ∷ l) (nodes_at-add bytes (place + 16) a b ∙ ap (λ (k : ℕ). nodes_at bytes (place + 16) a ++ nodes_at bytes k b) p)

-- what is due under the children of a key, and under more of them
pub due_of_children-append : (key : List ℕ) (nodes more : List Node) → due_of_children key (nodes ++ more) ≡ due_of_children key nodes ++ due_of_children key more
due_of_children-append key [] more = refl
due_of_children-append key (node ∷ nodes) more =
    let front = due_under (key ++ node.code ∷ []) node.children in
    ap (λ (l : List Due). front ++ l) (due_of_children-append key nodes more) ∙ sym (append_assoc front (due_of_children key nodes) (due_of_children key more))

-- the rows of one node, in front of those of the others
pub once_front : (bytes : List ℕ) (counts : Counts) (seen n : ℕ) (fault after : Option ImageFault) (read past : RowsRead) (key : List ℕ) (result : Result (List Due) ℕ)
    → ((later : List Due) → fault_behind bytes counts seen fault read (due_under key n ++ later) ≡ fault_behind bytes counts (seen + n) after past later)
    → fault_once_read bytes counts seen fault read (with_front (due_under key n) result) ≡ fault_once_read bytes counts (seen + n) after past result
once_front bytes counts seen n fault after read past key (Err place) same = refl
once_front bytes counts seen n fault after read past key (Ok later) same =
    let l : seen + length (due_under key n ++ later) ≡ seen + n + length later = let a = length-append (due_under key n) later in let b = length-due key n in omega arith in
    ap (λ (k : ℕ). checked (eqb k counts.rows) 8 (fault_behind bytes counts seen fault read (due_under key n ++ later))) l
    ∙ ap (λ (next : Option ℕ). checked (eqb (seen + n + length later) counts.rows) 8 next) (same later)

-- a node without one is passed, and its rows are read behind those before them
pub node_passes : (bytes : List ℕ) (counts : Counts) (nodes : NodesRead) (fault after : Option ImageFault) (read past : RowsRead) (due : Due) (later : List Due) (left : ℕ)
    → node_fault counts (suc (length due.key)) due.first nodes (node_at bytes nodes.place) ≡ None
    → ((more : List Due) → fault_behind bytes counts nodes.next_row fault read (due_under (due.key ++ (node_at bytes nodes.place).code ∷ []) (node_at bytes nodes.place).rows ++ more)
    ≡ fault_behind bytes counts (nodes.next_row + (node_at bytes nodes.place).rows) after past more)
    → fault_ahead bytes counts nodes fault read (due ∷ later) (suc left)
    ≡ fault_ahead bytes counts (past_node nodes (node_at bytes nodes.place)) after past (later ++ due_of_children due.key (nodes_at bytes nodes.place 1)) left
node_passes bytes counts nodes fault after read past due later left none same =
    let node = node_at bytes nodes.place in
    let key = due.key ++ node.code ∷ [] in
    let result : List Due → Result (List Due) ℕ = λ children. read_nodes counts (later ++ children) (past_node nodes node) (nodes_at bytes (nodes.place + 16) left) in
    ap (λ (o : Option ℕ). fault_once_read bytes counts nodes.next_row fault read (unless_fault o (with_front (due_under key node.rows) (result (due_under key node.children))))) none
    ∙ once_front bytes counts nodes.next_row node.rows fault after read past key (result (due_under key node.children)) same
    ∙ ap (λ (children : List Due). fault_once_read bytes counts (nodes.next_row + node.rows) after past (result children)) (sym (append-nil (due_under key node.children)))

-- the children of a key that are left, once one more was passed
pub child_passes : (bytes : List ℕ) (counts : Counts) (key : List ℕ) (count i place left : ℕ) (now then : NodesRead) (fault after : Option ImageFault) (read past : RowsRead) (later : List Due)
    → i < count → count ≤ left → now.place ≡ place + 16 * i
    → ((more : List Due) (n : ℕ) → fault_ahead bytes counts now fault read (record { key = key; first = eqb i 0 } ∷ more) (suc n)
    ≡ fault_ahead bytes counts then after past (more ++ due_of_children key (nodes_at bytes now.place 1)) n)
    → fault_ahead bytes counts now fault read (drop i (due_under key count) ++ (later ++ due_of_children key (nodes_at bytes place i))) (left - i)
    ≡ fault_ahead bytes counts then after past (drop (i + 1) (due_under key count) ++ (later ++ due_of_children key (nodes_at bytes place (i + 1)))) (left - (i + 1))
child_passes bytes counts key count i place left now then fault after read past later h few p step =
    let done = due_of_children key (nodes_at bytes place i) in
    let rest = drop (i + 1) (due_under key count) in
    let last = due_of_children key (nodes_at bytes (place + 16 * i) 1) in
    let n : left - i ≡ suc (left - (i + 1)) = omega arith in
    let joined : done ++ last ≡ due_of_children key (nodes_at bytes place (i + 1)) =
    sym (due_of_children-append key (nodes_at bytes place i) (nodes_at bytes (place + 16 * i) 1)) ∙ ap (due_of_children key) (sym (nodes_at-add bytes place i 1)) in
    ap (λ (k : ℕ). fault_ahead bytes counts now fault read (drop i (due_under key count) ++ (later ++ done)) k) n
    ∙ ap (λ (due : List Due). fault_ahead bytes counts now fault read (due ++ (later ++ done)) (suc (left - (i + 1)))) (due_more key count i h)
    ∙ step (rest ++ (later ++ done)) (left - (i + 1))
    ∙ ap (λ (k : ℕ). fault_ahead bytes counts then after past ((rest ++ (later ++ done)) ++ due_of_children key (nodes_at bytes k 1)) (left - (i + 1))) p
    ∙ ap (λ (due : List Due). fault_ahead bytes counts then after past due (left - (i + 1)))
    (append_assoc rest (later ++ done) last ∙ ap (λ (due : List Due). rest ++ due) (append_assoc later done last ∙ ap (λ (due : List Due). later ++ due) joined))

-- one with a fault ends the reading
pub child_fails : (bytes : List ℕ) (counts : Counts) (key : List ℕ) (count i left fault_place : ℕ) (now : NodesRead) (fault : Option ImageFault) (read : RowsRead) (later : List Due)
    → i < count → count ≤ left
    → ((more : List Due) (n : ℕ) → fault_ahead bytes counts now fault read (record { key = key; first = eqb i 0 } ∷ more) (suc n) ≡ Some fault_place)
    → fault_ahead bytes counts now fault read (drop i (due_under key count) ++ later) (left - i) ≡ Some fault_place
child_fails bytes counts key count i left fault_place now fault read later h few step =
    let n : left - i ≡ suc (left - (i + 1)) = omega arith in
    ap (λ (k : ℕ). fault_ahead bytes counts now fault read (drop i (due_under key count) ++ later) k) n
    ∙ ap (λ (due : List Due). fault_ahead bytes counts now fault read (due ++ later) (suc (left - (i + 1)))) (due_more key count i h)
    ∙ step (drop (i + 1) (due_under key count) ++ later) (left - (i + 1))

-- the numbers of children of nodes, and of one more
pub children_more : (bytes : List ℕ) (place i : ℕ) → sum_by (λ (node : Node). node.children) (nodes_at bytes place (i + 1)) ≡ sum_by (λ (node : Node). node.children) (nodes_at bytes place i) + (node_at bytes (place + 16 * i)).children
children_more bytes place i =
    ap (sum_by (λ (node : Node). node.children)) (nodes_at-add bytes place i 1)
    ∙ sum_by-append (λ (node : Node). node.children) (nodes_at bytes place i) (nodes_at bytes (place + 16 * i) 1)
    ∙ ap (λ (k : ℕ). sum_by (λ (node : Node). node.children) (nodes_at bytes place i) + k) (let z : 0 + (node_at bytes (place + 16 * i)).children ≡ (node_at bytes (place + 16 * i)).children = omega arith in z)

-- nothing is left of what is due under a key
pub due_all : (key : List ℕ) (n i : ℕ) → n ≤ i → drop i (due_under key n) ≡ []
due_all key n i h = drop_all i (due_under key n) (let l = length-due key n in omega arith)
