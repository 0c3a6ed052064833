-- The image of rows is read as these rows.
use Rattle.std.proofs.Common.{◌≡◌, ℕ, suc, ◌+◌, ◌-◌, ◌*◌, ◌<◌, ◌≤◌, ◌^◌, true, ◌&&◌, eqb, leb, List, [], ◌∷◌, ◌++◌, length, drop, Option, None, Ok, refl, sym, ap, ◌∙◌, subst, nat_eq, min, inl, inr, arith}
use Rattle.std.specs.List.{flat_map, list_all, starts_with, zip}
use Rattle.std.proofs.lemmas.Bool.{and_from, and_parts, eq-eqb, le-leb, leb-true, ltb-true}
use Rattle.std.proofs.lemmas.List.{append_assoc, drop_at, length-append}
use Rattle.chew_spec_syllable.specs.Row.{Row, is_row}
use Rattle.chew_spec_dictionary.specs.Dictionary.{is_map}
use Rattle.chew_spec_dictionary.specs.System.{rows_under}
use Rattle.chew_spec_image.specs.Fields.{Counts, RowFields, header_bytes, magic, node_at, node_bytes, nodes_at, row_bytes, rows_at}
use Rattle.chew_spec_image.specs.Image.{can_hold, child_count, counts_of, fields_from, has_time, image, nodes_from, nodes_of, row_count, rows_limit, text_of}
use Rattle.chew_spec_image.specs.NodeKeys.{last_code, node_keys}
use Rattle.chew_spec_image.specs.ReadNodes.{due_under, unless_fault}
use Rattle.chew_spec_image.specs.ReadRows.{read_rows}
use Rattle.chew_spec_image.specs.Reading.{at_rows, counts_fault, counts_in, header_fault, image_end, image_reading, keys_due, rows_for, rows_place, text_place}
use Rattle.chew_spec_image.proofs.Bounds.{child_count_few, node_code, node_count_few, phrase_short, row_in, row_parts, text_short}
use Rattle.chew_spec_image.proofs.Families.{RowBelow, children_joined, map_up, rows_below, rows_joined}
use Rattle.chew_spec_image.proofs.ImageBytes.{CountsFit, NodesFit, RowsFit, counts_read, length-header, length-nodes, length-rows, magic_read, nodes_read, rows_read_at}
use Rattle.chew_spec_image.proofs.ImageNodes.{checked_true, dues, nodes_are_read, no_root_rows, total, total_children, total_rows}
use Rattle.chew_spec_image.proofs.ImageRows.{RowsFollow, follow_all, follow_length, rows_walk}
use Rattle.chew_spec_image.proofs.KeyOrder.{below_shorter}
use Rattle.chew_spec_image.proofs.NodeKeys.{keys_root}
use Rattle.chew_spec_image.proofs.Rising.{Above, In, above_from}
use Rattle.chew_spec_syllable.proofs.CodeParts.{code_at_most}

-- rows that an image can hold
pub record CanHold (rows : List Row) : Type 0 where
  pub map : is_map rows ≡ true
  pub each : list_all is_row rows ≡ true
  pub few : length rows ≤ 250_000
  pub times : (row : Row) → In row rows → row.time < 2 ^ 64

-- how many nodes and rows there are
length-nodes_from : (rows : List Row) (child row : ℕ) (keys : List (List ℕ)) → length (nodes_from rows child row keys) ≡ length keys
length-nodes_from rows child row [] = refl
length-nodes_from rows child row (key ∷ keys) = let l = length-nodes_from rows (child + child_count rows key) (row + row_count rows key) keys in omega arith

length-fields_from : (start : ℕ) (rows : List Row) → length (fields_from start rows) ≡ length rows
length-fields_from start [] = refl
length-fields_from start (row ∷ rows) = let l = length-fields_from (start + length row.phrase) rows in omega arith

-- the fields of the nodes fit
nodes_fit : (rows : List Row) (keys : List (List ℕ)) (child row : ℕ) → list_all is_row rows ≡ true → ((key : List ℕ) → In key keys → In key (node_keys rows))
    → child + total (child_count rows) keys ≤ 3_000_000 → row + total (row_count rows) keys ≤ 250_000 → NodesFit (nodes_from rows child row keys)
nodes_fit rows [] child row each i c r = tt
nodes_fit rows (key ∷ keys) child row each i c r = (
  record {
    code = code key (i key (inl refl));
    children = let few = child_count_few rows key each in omega arith;
    first_child = omega arith;
    rows = omega arith;
    first_row = omega arith;
  },
  nodes_fit rows keys (child + child_count rows key) (row + row_count rows key) each (λ k j. i k (inr j)) (omega arith) (omega arith),
)
  where
    code : (k : List ℕ) → In k (node_keys rows) → last_code k < 2 ^ 16
    code [] j = omega arith
    code (d ∷ k) j = let top = code_at_most (last_code (d ∷ k)) (node_code rows (d ∷ k) each j (omega arith)) in omega arith

-- and those of the rows
rows_fit : (start : ℕ) (rows : List Row) → list_all is_row rows ≡ true → ((row : Row) → In row rows → row.time < 2 ^ 64) → start + length (text_of rows) ≤ 11_000_000 → RowsFit (fields_from start rows)
rows_fit start [] each times h = tt
rows_fit start (row ∷ rows) each times h =
    let both = and_parts (is_row row) (list_all is_row rows) each in
    let is = row_parts row both.0 in
    let freq = is.freq in
    let short = phrase_short row.phrase is.phrase in
    let l = length-append row.phrase (text_of rows) in (
      record { freq = omega arith; text_start = omega arith; text_len = omega arith; time = times row (inl refl) },
      rows_fit (start + length row.phrase) rows both.1 (λ r i. times r (inr i)) (omega arith),
    )

-- what the parts of an image are
pub record ImageParts (rows : List Row) (bytes : List ℕ) (keys : List (List ℕ)) : Type 0 where
  pub keys_same : node_keys rows ≡ [] ∷ keys
  pub header : header_fault bytes ≡ None
  pub counts : counts_in bytes ≡ counts_of rows
  pub nodes : nodes_at bytes 20 (length (node_keys rows)) ≡ nodes_of rows
  pub fields : rows_at bytes (rows_place (counts_of rows)) (length rows) ≡ fields_from 0 rows
  pub text : drop (text_place (counts_of rows)) bytes ≡ text_of rows

pub image_parts_are : (rows : List Row) → CanHold rows → ImageParts rows (image rows) (drop 1 (node_keys rows))
unfolding image
image_parts_are rows can =
    let counts = counts_of rows in
    let keys = drop 1 (node_keys rows) in
    let header = header_bytes counts in
    let nodes = nodes_of rows in
    let fields = fields_from 0 rows in
    let text = text_of rows in
    let node_part = flat_map node_bytes nodes in
    let row_part = flat_map row_bytes fields in
    let bytes = header ++ (node_part ++ (row_part ++ text)) in
    let root = keys_root rows in
    let few = can.few in
    let node_few = node_count_few rows can.each in
    let text_few = text_short rows can.each in
    let node_some : length (node_keys rows) ≡ suc (length keys) = ap length root in
    let fits : CountsFit counts = record { rows = omega arith; nodes = omega arith; text = omega arith } in
    let read = counts_read bytes (node_part ++ (row_part ++ text)) counts fits refl in
    let header_len = length-header counts in
    let node_len = length-nodes nodes in
    let node_count = length-nodes_from rows 1 0 (node_keys rows) in
    let row_len = length-rows fields in
    let row_count' = length-fields_from 0 rows in
    let l1 = length-append header (node_part ++ (row_part ++ text)) in
    let l2 = length-append node_part (row_part ++ text) in
    let l3 = length-append row_part text in
    let l4 = length-append header node_part in
    let l5 = length-append (header ++ node_part) row_part in
    let whole : length bytes ≡ image_end counts = omega arith in
    let all = total_children rows (node_keys rows) in
    let joined = children_joined rows in
    let jl = ap length joined in
    let own = total_rows rows (node_keys rows) in
    let rows_same = rows_joined rows can.map (λ row i. (row_in row rows can.each i).some) in
    let rl = ap length rows_same in
    let node_fits = nodes_fit rows (node_keys rows) 1 0 can.each (λ key i. i) (let e : length (drop 1 (node_keys rows)) ≡ length keys = refl in omega arith) (omega arith) in
    let row_fits = rows_fit 0 rows can.each can.times (omega arith) in
    record {
      keys_same = root;
      header =
          checked_true (starts_with nat_eq bytes magic) 0 _ (magic_read counts (node_part ++ (row_part ++ text)))
          (checked_true (leb 20 (length bytes)) (length bytes) _ (le-leb 20 (length bytes) (omega arith))
          (ap (λ (c : Counts). counts_fault c (length bytes)) read
          ∙ checked_true (leb counts.rows rows_limit) 8 _ (le-leb counts.rows rows_limit few)
          (checked_true (leb 1 counts.nodes && leb counts.nodes (11 * counts.rows + 1)) 12 _ (and_from (leb 1 counts.nodes) (leb counts.nodes (11 * counts.rows + 1)) (le-leb 1 counts.nodes (omega arith)) (le-leb counts.nodes (11 * counts.rows + 1) node_few))
          (checked_true (leb counts.text (44 * counts.rows)) 16 _ (le-leb counts.text (44 * counts.rows) text_few)
          (checked_true (eqb (length bytes) (image_end counts)) (min (length bytes) (image_end counts)) None (eq-eqb (length bytes) (image_end counts) whole) refl)))));
      counts = read;
      nodes = ap (nodes_at bytes 20) (sym node_count) ∙ nodes_read bytes header (row_part ++ text) nodes 20 node_fits header_len refl;
      fields = ap (rows_at bytes (rows_place counts)) (sym row_count')
          ∙ rows_read_at bytes (header ++ node_part) text fields (rows_place counts) row_fits (omega arith) (sym (append_assoc header node_part (row_part ++ text)));
      text = ap (drop (text_place counts)) (sym (append_assoc header node_part (row_part ++ text)) ∙ sym (append_assoc (header ++ node_part) row_part text))
          ∙ drop_at ((header ++ node_part) ++ row_part) text (text_place counts) (omega arith);
    }

-- the image of rows is read as these rows
pub image_is_read : (rows : List Row) → CanHold rows → image_reading (image rows) ≡ Ok rows
unfolding image_reading
image_is_read rows can =
    let bytes = image rows in
    let counts = counts_of rows in
    let keys = drop 1 (node_keys rows) in
    let parts = image_parts_are rows can in
    let some : length (node_keys rows) ≡ suc (counts.nodes - 1) = let l = ap length parts.keys_same in omega arith in
    let nodes : node_at bytes 20 ∷ nodes_at bytes 36 (counts.nodes - 1) ≡ nodes_from rows 1 0 ([] ∷ keys) =
    ap (nodes_at bytes 20) (sym some) ∙ parts.nodes ∙ ap (nodes_from rows 1 0) parts.keys_same in
    let due = nodes_are_read rows keys (node_at bytes 20) (nodes_at bytes 36 (counts.nodes - 1)) can.map can.each parts.keys_same nodes in
    let before : Row = record { key = []; phrase = []; freq = 0; time = 0 } in
    let none = no_root_rows rows can.each in
    let all : flat_map (rows_under rows) ([] ∷ keys) ≡ rows =
    ap (flat_map (rows_under rows)) (sym parts.keys_same) ∙ rows_joined rows can.map (λ row i. (row_in row rows can.each i).some) in
    let follow_root : RowsFollow before (dues (row_count rows) keys) rows =
    subst (RowsFollow before (dues (row_count rows) keys)) all
    (subst (λ (n : ℕ). RowsFollow before (due_under [] n ++ dues (row_count rows) keys) (flat_map (rows_under rows) ([] ∷ keys))) none (follow_all rows ([] ∷ keys) before)) in
    let above : Above RowBelow before rows = above_from RowBelow before rows (λ row i. rows_below before row (below_shorter [] row.key (row_in row rows can.each i).some)) in
    let read = rows_walk (text_of rows) [] before (dues (row_count rows) keys) (at_rows counts) rows refl refl refl follow_root above (map_up rows can.map) (λ row i. row_in row rows can.each i) in
    let count = follow_length before (dues (row_count rows) keys) rows follow_root in
    ap (λ (o : Option ℕ). unless_fault o (rows_for bytes (counts_in bytes) (keys_due bytes (counts_in bytes)))) parts.header
    ∙ ap (λ (c : Counts). rows_for bytes c (keys_due bytes c)) parts.counts
    ∙ ap (rows_for bytes counts) due
    ∙ ap (λ (o : Option ℕ). unless_fault o (read_rows (drop (text_place counts) bytes) (at_rows counts) (zip (dues (row_count rows) keys) (rows_at bytes (rows_place counts) counts.rows))))
    (checked_true (eqb (length (dues (row_count rows) keys)) counts.rows) 8 None (eq-eqb (length (dues (row_count rows) keys)) counts.rows count) refl)
    ∙ ap (λ (t : List ℕ). read_rows t (at_rows counts) (zip (dues (row_count rows) keys) (rows_at bytes (rows_place counts) counts.rows))) parts.text
    ∙ ap (λ (f : List RowFields). read_rows (text_of rows) (at_rows counts) (zip (dues (row_count rows) keys) f)) parts.fields
    ∙ read

-- what the test of rows says
has_times : (rows : List Row) → list_all has_time rows ≡ true → (row : Row) → In row rows → row.time < 2 ^ 64
has_times [] e row i = absurd i
has_times (first ∷ rows) e row (inl same) = let both = and_parts (has_time first) (list_all has_time rows) e in let h = ltb-true first.time (2 ^ 64) both.0 in let t = ap (λ (r : Row). r.time) same in omega arith
has_times (first ∷ rows) e row (inr i) = has_times rows (and_parts (has_time first) (list_all has_time rows) e).1 row i

pub can_hold_parts : (rows : List Row) → can_hold rows ≡ true → CanHold rows
can_hold_parts rows e =
    let a = and_parts (is_map rows) (list_all is_row rows && (list_all has_time rows && leb (length rows) rows_limit)) e in
    let b = and_parts (list_all is_row rows) (list_all has_time rows && leb (length rows) rows_limit) a.1 in
    let c = and_parts (list_all has_time rows) (leb (length rows) rows_limit) b.1 in
    record { map = a.0; each = b.0; few = leb-true (length rows) rows_limit c.1; times = has_times rows c.0 }

pub read_again : (rows : List Row) → can_hold rows ≡ true → image_reading (image rows) ≡ Ok rows
read_again rows e = image_is_read rows (can_hold_parts rows e)

-- lists with one image are one list
pub one_list : (rows others : List Row) → can_hold rows ≡ true → can_hold others ≡ true → image rows ≡ image others → rows ≡ others
one_list rows others e f same =
    let both : Ok rows ≡ Ok others = sym (read_again rows e) ∙ ap image_reading same ∙ read_again others f in
    let rows_same : rows ≡ others = cc in rows_same

-- how long an image is
pub length-image : (rows : List Row) → length (image rows) ≡ image_end (counts_of rows)
unfolding image
length-image rows =
    let counts = counts_of rows in
    let header_len = length-header counts in
    let node_len = length-nodes (nodes_of rows) in
    let node_count = length-nodes_from rows 1 0 (node_keys rows) in
    let row_len = length-rows (fields_from 0 rows) in
    let row_count' = length-fields_from 0 rows in
    let l1 = length-append (header_bytes counts) (flat_map node_bytes (nodes_of rows) ++ (flat_map row_bytes (fields_from 0 rows) ++ text_of rows)) in
    let l2 = length-append (flat_map node_bytes (nodes_of rows)) (flat_map row_bytes (fields_from 0 rows) ++ text_of rows) in
    let l3 = length-append (flat_map row_bytes (fields_from 0 rows)) (text_of rows) in
    omega arith
