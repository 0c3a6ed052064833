-- The header of an image, and the fields of a node and of a row. The format of images is this project's own.
use Rattle.std.specs.Prelude.{ℕ, zero, suc, ◌+◌, List, [], ◌∷◌, ◌++◌, take, drop, slice_index, ◌<◌, codes}
use Rattle.std.specs.Int.{w16, w32, w64, to_le_bytes, from_le_bytes}

-- how many rows, nodes and bytes of text an image has
pub record Counts : Type 0 where
  pub rows : ℕ
  pub nodes : ℕ
  pub text : ℕ

-- a node: a prefix of keys
pub record Node : Type 0 where
  -- the last code of the prefix; 0 for the empty one
  pub code : ℕ
  -- how many nodes are its children: the prefixes that are one code longer
  pub children : ℕ
  -- where these begin among all nodes: 1 plus the children of all earlier nodes
  pub first_child : ℕ
  -- how many rows have this prefix as their key
  pub rows : ℕ
  -- where these begin among all rows: the rows of all earlier nodes
  pub first_row : ℕ

-- a row, besides its key and its phrase
pub record RowFields : Type 0 where
  pub freq : ℕ
  -- where its phrase begins in the text, and how many bytes it has
  pub text_start : ℕ
  pub text_len : ℕ
  pub time : ℕ

-- the eight bytes with which every image begins
abbrev pub magic : List ℕ
magic = codes "CHEWTRI1"

-- the header's 20 bytes; the low byte of each number comes first
unfoldable pub header_bytes : Counts → List ℕ
header_bytes counts = magic ++ (to_le_bytes w32 counts.rows ++ (to_le_bytes w32 counts.nodes ++ to_le_bytes w32 counts.text))

-- a node's 16 bytes
unfoldable pub node_bytes : Node → List ℕ
node_bytes node = to_le_bytes w16 node.code ++ (to_le_bytes w16 node.children ++ (to_le_bytes w32 node.first_child
    ++ (to_le_bytes w32 node.rows ++ to_le_bytes w32 node.first_row)))

-- a row's 20 bytes
unfoldable pub row_bytes : RowFields → List ℕ
row_bytes fields = to_le_bytes w32 fields.freq ++ (to_le_bytes w32 fields.text_start ++ (to_le_bytes w32 fields.text_len
    ++ to_le_bytes w64 fields.time))

-- each of these numbers is a byte
abbrev pub AreBytes : List ℕ → Type 0
AreBytes bytes = (i : ℕ) → slice_index bytes i < 256

-- the number in 2, in 4 and in 8 bytes from a place on
abbrev pub u16_at : List ℕ → ℕ → ℕ
u16_at bytes place = from_le_bytes w16 (take 2 (drop place bytes))

abbrev pub u32_at : List ℕ → ℕ → ℕ
u32_at bytes place = from_le_bytes w32 (take 4 (drop place bytes))

abbrev pub u64_at : List ℕ → ℕ → ℕ
u64_at bytes place = from_le_bytes w64 (take 8 (drop place bytes))

-- the node in the 16 bytes from a place on
unfoldable pub node_at : List ℕ → ℕ → Node
node_at bytes place = record {
  code = u16_at bytes place;
  children = u16_at bytes (place + 2);
  first_child = u32_at bytes (place + 4);
  rows = u32_at bytes (place + 8);
  first_row = u32_at bytes (place + 12);
}

-- the row in the 20 bytes from a place on
unfoldable pub row_at : List ℕ → ℕ → RowFields
row_at bytes place = record {
  freq = u32_at bytes place;
  text_start = u32_at bytes (place + 4);
  text_len = u32_at bytes (place + 8);
  time = u64_at bytes (place + 12);
}

-- that many nodes, one behind the other
abbrev pub nodes_at : List ℕ → ℕ → ℕ → List Node
nodes_at bytes place zero = []
nodes_at bytes place (suc n) = node_at bytes place ∷ nodes_at bytes (place + 16) n

-- that many rows
abbrev pub rows_at : List ℕ → ℕ → ℕ → List RowFields
rows_at bytes place zero = []
rows_at bytes place (suc n) = row_at bytes place ∷ rows_at bytes (place + 20) n
