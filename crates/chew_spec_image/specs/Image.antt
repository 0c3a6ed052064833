-- The image of a list of rows: one list of bytes, from which each row can be found by its key. The format is this
-- project's own.
use Rattle.std.specs.Prelude.{ℕ, ◌+◌, ◌^◌, Bool, ◌&&◌, nat_le, nat_lt, List, [], ◌∷◌, ◌++◌, filter, flat_map, length}
use Rattle.std.specs.List.{list_all}
use Rattle.chew_spec_syllable.specs.Row.{Row, is_row}
use Rattle.chew_spec_dictionary.specs.Dictionary.{is_map}
use Rattle.chew_spec_dictionary.specs.System.{rows_under}
use Rattle.chew_spec_image.specs.Fields.{Counts, Node, RowFields, header_bytes, node_bytes, row_bytes}
use Rattle.chew_spec_image.specs.NodeKeys.{node_keys, is_child, last_code}

-- the most rows of an image
abbrev pub rows_limit : ℕ
rows_limit = 250_000

-- rows that an image can hold: in image order, no pair twice, at most 250,000, and with times of 64 bits
abbrev pub has_time : Row → Bool
has_time row = nat_lt row.time (2 ^ 64)

abbrev pub can_hold : List Row → Bool
can_hold rows = is_map rows && (list_all is_row rows && (list_all has_time rows && nat_le (length rows) rows_limit))

-- how many nodes are children of a key, and how many rows are under it
abbrev pub child_count : List Row → List ℕ → ℕ
child_count rows key = length (filter (is_child key) (node_keys rows))

abbrev pub row_count : List Row → List ℕ → ℕ
row_count rows key = length (rows_under rows key)

-- the nodes of keys, behind nodes of which the next child and the next row have these places
abbrev pub nodes_from : List Row → (next_child next_row : ℕ) → List (List ℕ) → List Node
nodes_from rows next_child next_row [] = []
nodes_from rows next_child next_row (key ∷ keys) = record {
  code = last_code key;
  children = child_count rows key;
  first_child = next_child;
  rows = row_count rows key;
  first_row = next_row;
} ∷ nodes_from rows (next_child + child_count rows key) (next_row + row_count rows key) keys

-- the nodes of the rows
abbrev pub nodes_of : List Row → List Node
nodes_of rows = nodes_from rows 1 0 (node_keys rows)

-- the rows' fields, behind rows with that many bytes of text
abbrev pub fields_from : ℕ → List Row → List RowFields
fields_from text_start [] = []
fields_from text_start (row ∷ rows) = record {
  freq = row.freq;
  text_start = text_start;
  text_len = length row.phrase;
  time = row.time;
} ∷ fields_from (text_start + length row.phrase) rows

-- all phrases
abbrev pub text_of : List Row → List ℕ
text_of rows = flat_map (λ row. row.phrase) rows

-- the numbers of rows, of nodes and of bytes of text
abbrev pub counts_of : List Row → Counts
counts_of rows = record { rows = length rows; nodes = length (node_keys rows); text = length (text_of rows) }

-- the header, the nodes, the rows and the text
unfoldable pub image : List Row → List ℕ
image rows = header_bytes (counts_of rows) ++ (flat_map node_bytes (nodes_of rows) ++ (flat_map row_bytes (fields_from 0 rows) ++ text_of rows))
