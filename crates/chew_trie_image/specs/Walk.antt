-- What is still to be found of the faults of an image, once some of its nodes and their rows were checked.
use Rattle.std.specs.Prelude.{◌≡◌, ◌≤◌, ℕ, suc, ◌+◌, ◌-◌, ◌*◌, List, [], ◌∷◌, ◌++◌, length, take, drop, All, flat_map, ◌==◌, Option, Some, None, Result, Ok, Err}
use Rattle.std.specs.List.{zip}
use Rattle.std.specs.Result.{result_err}
use Rattle.chew_spec_image.specs.Fields.{Counts, Node, nodes_at, rows_at}
use Rattle.chew_spec_image.specs.ReadNodes.{Due, NodesRead, checked, due_under, read_nodes}
use Rattle.chew_spec_image.specs.ReadRows.{RowsRead, read_rows}
use Rattle.chew_spec_image.specs.Reading.{image_place, rows_place, text_place}
use Rattle.chew_trie_image.specs.declared.fault.ImageFault.{ImageFault}

-- the first fault of the rows that are left, where no earlier one has a fault
abbrev pub fault_of_rows : List ℕ → Counts → (seen : ℕ) → RowsRead → List Due → Option ℕ
fault_of_rows bytes counts seen read due =
    result_err (read_rows (drop (text_place counts) bytes) read (zip due (rows_at bytes read.place (counts.rows - seen))))

-- the rows' first fault: that of earlier ones, or of those that are left
abbrev pub fault_behind : List ℕ → Counts → (seen : ℕ) → Option ImageFault → RowsRead → List Due → Option ℕ
fault_behind bytes counts seen (Some fault) read due = Some fault.place
fault_behind bytes counts seen None read due = fault_of_rows bytes counts seen read due

-- the same once the nodes that are left were read, which have a fault, or say which rows are due
abbrev pub fault_once_read : List ℕ → Counts → (seen : ℕ) → Option ImageFault → RowsRead → Result (List Due) ℕ → Option ℕ
fault_once_read bytes counts seen fault read (Err place) = Some place
fault_once_read bytes counts seen fault read (Ok due) = checked (seen + length due == counts.rows) 8 (fault_behind bytes counts seen fault read due)

-- the first fault of an image whose nodes were read so far, where these children are due and so many nodes are left
abbrev pub fault_ahead : List ℕ → Counts → NodesRead → Option ImageFault → RowsRead → List Due → ℕ → Option ℕ
fault_ahead bytes counts nodes fault read due left =
    fault_once_read bytes counts nodes.next_row fault read (read_nodes counts due nodes (nodes_at bytes nodes.place left))

-- the children that are due under nodes of these keys
abbrev pub due_of : List (List ℕ) → List Node → List Due
due_of [] nodes = []
due_of (key ∷ keys) [] = []
due_of (key ∷ keys) (node ∷ nodes) = due_under key node.children ++ due_of keys nodes

-- those that are due under the children of one key
abbrev pub due_of_children : List ℕ → List Node → List Due
due_of_children key nodes = flat_map (λ node. due_under (key ++ node.code ∷ []) node.children) nodes

-- the next node and the next row stand where those read so far end, and no number is past its limit
pub record IsWalk (counts : Counts) (nodes : NodesRead) (fault : Option ImageFault) (read : RowsRead) : Type 0 where
  pub children : nodes.next_child ≤ counts.nodes
  pub few_rows : nodes.next_row ≤ counts.rows
  pub within : nodes.place ≤ rows_place counts
  pub rows_begin : fault ≡ None → read.place ≡ rows_place counts + 20 * nodes.next_row

-- the children of the first i nodes were read, and others wait: keys has theirs, of which the first so many are on the
-- level of the node whose children are next
pub record IsWaiting (bytes : List ℕ) (counts : Counts) (i len level_end : ℕ) (nodes : NodesRead) (fault : Option ImageFault) (read : RowsRead) : Type 0 where
  pub keys : List (List ℕ)
  pub near : ℕ
  pub few : near ≤ length keys
  pub deep : len ≤ i
  pub place : nodes.place ≡ 20 + 16 * (i + length keys)
  pub level : level_end ≡ 20 + 16 * (i + near)
  pub here : All (λ key. suc (length key) ≡ len) (take near keys)
  pub below : All (λ key. length key ≡ len) (drop near keys)
  pub children : nodes.next_child ≡ (i + length keys) + length (due_of keys (nodes_at bytes (20 + 16 * i) (length keys)))
  pub same : image_place bytes
      ≡ fault_ahead bytes counts nodes fault read (due_of keys (nodes_at bytes (20 + 16 * i) (length keys))) (counts.nodes - (i + length keys))
