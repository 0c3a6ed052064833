-- What nodes stand for: the keys of the rows, or the place of the first faulty field.
use Rattle.std.specs.Prelude.{ℕ, zero, suc, ◌+◌, Bool, true, false, ◌&&◌, ◌||◌, List, [], ◌∷◌, ◌++◌, length, ◌==◌, nat_lt, nat_le, Option, Some, None, Result, Ok, Err, if◌then◌else◌}
use Rattle.std.specs.Prelude.{replicate}
use Rattle.chew_spec_syllable.specs.Syllable.{is_code}
use Rattle.chew_spec_image.specs.Fields.{Counts, Node}

-- a fault at the place where the condition doesn't hold; else the first one behind it
abbrev pub checked : Bool → (place : ℕ) → Option ℕ → Option ℕ
checked holds place next = if holds then next else Some place

-- what is read where there is no fault
abbrev pub unless_fault : {X : Type 0} → Option ℕ → Result X ℕ → Result X ℕ
unless_fault None next = next
unless_fault (Some place) next = Err place

-- what is read, with these in front of it
abbrev pub with_front : {X : Type 0} → List X → Result (List X) ℕ → Result (List X) ℕ
with_front front (Ok found) = Ok (front ++ found)
with_front front (Err place) = Err place

-- a child that a node of this key will have, or a row, and whether it is the first of them
pub record Due : Type 0 where
  pub key : List ℕ
  pub first : Bool

-- that many for one node
abbrev pub due_under : List ℕ → ℕ → List Due
due_under key zero = []
due_under key (suc n) = record { key = key; first = true } ∷ replicate n (record { key = key; first = false })

-- what the nodes read so far leave: the code of the last one, 1 plus their children, their rows, and the place of
-- the next one
pub record NodesRead : Type 0 where
  pub code : ℕ
  pub next_child : ℕ
  pub next_row : ℕ
  pub place : ℕ

-- the nodes read so far, and one more
abbrev pub past_node : NodesRead → Node → NodesRead
past_node read node = record {
  code = node.code;
  next_child = read.next_child + node.children;
  next_row = read.next_row + node.rows;
  place = read.place + 16;
}

-- node 0 is the empty key, which has no rows
abbrev pub root_fault : Counts → NodesRead → Node → Option ℕ
root_fault counts read node =
    checked (node.code == 0) read.place
    (checked (nat_le (read.next_child + node.children) counts.nodes) (read.place + 2)
    (checked (node.first_child == read.next_child) (read.place + 4)
    (checked (node.rows == 0) (read.place + 8)
    (checked (node.first_row == read.next_row) (read.place + 12)
    None))))

-- any other node, by how many codes its key has, and whether it is the first of its parent's children: its code is a
-- syllable's and above that of the child before it, its children and rows are within their numbers, a key of 11 codes
-- has no children, and one without children has rows
abbrev pub node_fault : Counts → (len : ℕ) → (first : Bool) → NodesRead → Node → Option ℕ
node_fault counts len first read node =
    checked (is_code node.code && (first || nat_lt read.code node.code)) read.place
    (checked (nat_le (read.next_child + node.children) counts.nodes && (nat_lt len 11 || node.children == 0)) (read.place + 2)
    (checked (node.first_child == read.next_child) (read.place + 4)
    (checked (nat_le (read.next_row + node.rows) counts.rows && nat_lt 0 (node.rows + node.children)) (read.place + 8)
    (checked (node.first_row == read.next_row) (read.place + 12)
    None))))

-- the keys of the rows of these nodes, of which the first ones are due; a node that isn't due is a fault at its code
abbrev pub read_nodes : Counts → List Due → NodesRead → List Node → Result (List Due) ℕ
read_nodes counts due read [] = Ok []
read_nodes counts [] read (node ∷ nodes) = Err read.place
read_nodes counts (due ∷ later) read (node ∷ nodes) =
    unless_fault (node_fault counts (suc (length due.key)) due.first read node)
    (with_front (due_under (due.key ++ node.code ∷ []) node.rows)
    (read_nodes counts (later ++ due_under (due.key ++ node.code ∷ []) node.children) (past_node read node) nodes))

-- where the nodes begin
abbrev pub at_root : NodesRead
at_root = record { code = 0; next_child = 1; next_row = 0; place = 20 }

-- the same of node 0 and all others
abbrev pub read_all_nodes : Counts → Node → List Node → Result (List Due) ℕ
read_all_nodes counts root nodes =
    unless_fault (root_fault counts at_root root) (read_nodes counts (due_under [] root.children) (past_node at_root root) nodes)
