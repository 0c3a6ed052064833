-- What bytes stand for as an image: the rows, or the first faulty place.
use Rattle.std.specs.Prelude.{ℕ, ◌+◌, ◌-◌, ◌*◌, ◌&&◌, List, [], min, length, drop, nat_eq, ◌==◌, nat_le, Option, None, Result, Ok, Err}
use Rattle.std.specs.List.{starts_with, zip}
use Rattle.std.specs.Result.{result_err, result_unwrap_or}
use Rattle.chew_spec_syllable.specs.Row.{Row}
use Rattle.chew_spec_image.specs.Fields.{Counts, magic, u32_at, node_at, nodes_at, rows_at}
use Rattle.chew_spec_image.specs.Image.{rows_limit}
use Rattle.chew_spec_image.specs.ReadNodes.{Due, checked, unless_fault, read_all_nodes}
use Rattle.chew_spec_image.specs.ReadRows.{RowsRead, read_rows}

-- the numbers of rows, of nodes and of bytes of text
abbrev pub counts_in : List ℕ → Counts
counts_in bytes = record { rows = u32_at bytes 8; nodes = u32_at bytes 12; text = u32_at bytes 16 }

-- where the rows begin, where the text does, and where the image ends
abbrev pub rows_place : Counts → ℕ
rows_place counts = 20 + 16 * counts.nodes

abbrev pub text_place : Counts → ℕ
text_place counts = rows_place counts + 20 * counts.rows

abbrev pub image_end : Counts → ℕ
image_end counts = text_place counts + counts.text

-- a key has at most 11 codes, and so gives at most 11 nodes; a phrase has at most 44 bytes
abbrev pub counts_fault : Counts → (len : ℕ) → Option ℕ
counts_fault counts len =
    checked (nat_le counts.rows rows_limit) 8
    (checked (nat_le 1 counts.nodes && nat_le counts.nodes (11 * counts.rows + 1)) 12
    (checked (nat_le counts.text (44 * counts.rows)) 16
    (checked (len == image_end counts) (min len (image_end counts))
    None)))

-- the first faulty place before the nodes, or that of the length
abbrev pub header_fault : List ℕ → Option ℕ
header_fault bytes =
    checked (starts_with nat_eq bytes magic) 0
    (checked (nat_le 20 (length bytes)) (length bytes)
    (counts_fault (counts_in bytes) (length bytes)))

-- where rows begin to be read
abbrev pub at_rows : Counts → RowsRead
at_rows counts = record { phrase = []; text_start = 0; place = rows_place counts }

-- the rows for these keys, which are as many as the image says
abbrev pub rows_for : List ℕ → Counts → Result (List Due) ℕ → Result (List Row) ℕ
rows_for bytes counts (Err place) = Err place
rows_for bytes counts (Ok due) =
    unless_fault (checked (length due == counts.rows) 8 None)
    (read_rows (drop (text_place counts) bytes) (at_rows counts) (zip due (rows_at bytes (rows_place counts) counts.rows)))

-- the keys that the nodes stand for
abbrev pub keys_due : List ℕ → Counts → Result (List Due) ℕ
keys_due bytes counts = read_all_nodes counts (node_at bytes 20) (nodes_at bytes 36 (counts.nodes - 1))

-- the rows that the bytes stand for, or the first faulty place
unfoldable pub image_reading : List ℕ → Result (List Row) ℕ
image_reading bytes = unless_fault (header_fault bytes) (rows_for bytes (counts_in bytes) (keys_due bytes (counts_in bytes)))

-- the first faulty place, or none
abbrev pub image_place : List ℕ → Option ℕ
image_place bytes = result_err (image_reading bytes)

-- the rows of an image
abbrev pub rows_in : List ℕ → List Row
rows_in bytes = result_unwrap_or (image_reading bytes) []
