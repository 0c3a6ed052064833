-- What is searched for among the nodes of rows.
use Rattle.std.specs.Prelude.{◌≡◌, ◌<◌, ◌≤◌, ℕ, ◌+◌, List, [], length, take, sum_by, slice_index_or}
use Rattle.chew_spec_syllable.specs.Row.{Row}
use Rattle.chew_spec_image.specs.Fields.{Node}
use Rattle.chew_spec_image.specs.Image.{child_count, row_count}
use Rattle.chew_spec_image.specs.NodeKeys.{last_code, node_keys}

-- the key of a node, by its place, and its last code
abbrev pub key_at : List Row → ℕ → List ℕ
key_at rows i = slice_index_or (node_keys rows) i []

abbrev pub code_at : List Row → ℕ → ℕ
code_at rows i = last_code (key_at rows i)

-- where the children of a node begin among all nodes, and its rows among all rows
abbrev pub first_child_at : List Row → ℕ → ℕ
first_child_at rows i = 1 + sum_by (child_count rows) (take i (node_keys rows))

abbrev pub first_row_at : List Row → ℕ → ℕ
first_row_at rows i = sum_by (row_count rows) (take i (node_keys rows))

-- the node at a place
pub record IsNode (rows : List Row) (i : ℕ) (node : Node) : Type 0 where
  pub code : node.code ≡ code_at rows i
  pub children : node.children ≡ child_count rows (key_at rows i)
  pub first_child : node.first_child ≡ first_child_at rows i
  pub rows_here : node.rows ≡ row_count rows (key_at rows i)
  pub first_row : node.first_row ≡ first_row_at rows i
  pub within : i < length (node_keys rows)

-- the codes of nodes rise, from one up to another
abbrev pub CodesRise : List Row → (low high : ℕ) → Type 0
CodesRise rows low high = (i j : ℕ) → low ≤ i → i < j → j < high → code_at rows i < code_at rows j
