-- Where the next nodes' children and rows begin.
use Rattle.std.specs.Prelude.{◌≡◌, ◌≤◌, ℕ, ◌+◌, ◌-◌, List, length, drop, filter, flat_map}
use Rattle.chew_spec_syllable.specs.Row.{Row}
use Rattle.chew_spec_dictionary.specs.System.{rows_under}
use Rattle.chew_spec_image.specs.NodeKeys.{is_child, node_keys}

-- the children of nodes, one node's after the other's
abbrev pub children_of : List Row → List (List ℕ) → List (List ℕ)
children_of rows keys = flat_map (λ key. filter (is_child key) (node_keys rows)) keys

-- the nodes of the keys that are left have the children and the rows from these places on
pub record IsAt (rows : List Row) (keys left : List (List ℕ)) (child row : ℕ) : Type 0 where
  pub one : 1 ≤ child
  pub children : drop (child - 1) keys ≡ children_of rows left
  pub own : drop row rows ≡ flat_map (rows_under rows) left
  pub keys_within : (child - 1) + length (children_of rows left) ≡ length keys
  pub rows_within : row + length (flat_map (rows_under rows) left) ≡ length rows
