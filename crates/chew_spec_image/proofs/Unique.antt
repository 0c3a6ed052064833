-- Bytes that are read without a fault are the image of the rows that were read.
use Rattle.std.proofs.Common.{◌≡◌, ℕ, zero, suc, ◌+◌, ◌-◌, ◌*◌, ◌≤◌, true, ◌&&◌, eqb, leb, List, [], ◌∷◌, ◌++◌, length, map, take, drop, None, Some, Result, Ok, Err, refl, sym, ap, ◌∙◌, subst, nat_eq, min, arith}
use Rattle.std.specs.List.{flat_map, list_all, starts_with, zip}
use Rattle.std.specs.Result.{result_err, result_unwrap_or}
use Rattle.std.proofs.lemmas.Bool.{and_parts, eqb-true, leb-true}
use Rattle.std.proofs.lemmas.List.{drop-drop, length-drop, length-map, take-append-drop}
use Rattle.chew_spec_syllable.specs.Row.{Row, is_row}
use Rattle.chew_spec_dictionary.specs.Dictionary.{is_map}
use Rattle.chew_spec_image.specs.Fields.{AreBytes, Counts, Node, RowFields, header_bytes, magic, node_at, node_bytes, nodes_at, row_bytes, rows_at}
use Rattle.chew_spec_image.specs.Image.{counts_of, fields_from, image, nodes_from, nodes_of, rows_limit, text_of}
use Rattle.chew_spec_image.specs.NodeKeys.{node_keys}
use Rattle.chew_spec_image.specs.ReadNodes.{Due, checked, due_under}
use Rattle.chew_spec_image.specs.ReadRows.{read_rows}
use Rattle.chew_spec_image.specs.Reading.{at_rows, counts_in, header_fault, image_end, image_place, image_reading, keys_due, rows_for, rows_in, rows_place, text_place}
use Rattle.chew_spec_image.proofs.BytesBack.{header_back, nodes_back, part, rows_back}
use Rattle.chew_spec_image.proofs.Counting.{due_keys}
use Rattle.chew_spec_image.proofs.ReadBack.{RowsFine, each_row, fields_again, keys_again, links_by, map_from, rows_ok, rows_read, rows_rise, text_again}
use Rattle.chew_spec_image.proofs.ReadKeys.{Links, checked_none, due_by, unless_ok}
use Rattle.chew_spec_image.proofs.ReadTree.{KeyFits, Tree, tree_read}
use Rattle.chew_spec_image.proofs.Rising.{In}
use Rattle.chew_spec_image.proofs.SameKeys.{Reads, counted_all, due_at, same_keys}

-- a header without a fault
pub record HeaderFine (bytes : List ℕ) : Type 0 where
  pub begins : starts_with nat_eq bytes magic ≡ true
  pub header : 20 ≤ length bytes
  pub rows : (counts_in bytes).rows ≤ 250_000
  pub root : 1 ≤ (counts_in bytes).nodes
  pub whole : length bytes ≡ image_end (counts_in bytes)

pub header_fine : (bytes : List ℕ) → header_fault bytes ≡ None → HeaderFine bytes
header_fine bytes e =
    let counts = counts_in bytes in
    let a = checked_none (starts_with nat_eq bytes magic) 0 _ e in
    let b = checked_none (leb 20 (length bytes)) (length bytes) _ a.1 in
    let c = checked_none (leb counts.rows rows_limit) 8 _ b.1 in
    let d = checked_none (leb 1 counts.nodes && leb counts.nodes (11 * counts.rows + 1)) 12 _ c.1 in
    let f = checked_none (leb counts.text (44 * counts.rows)) 16 _ d.1 in
    let g = checked_none (eqb (length bytes) (image_end counts)) (min (length bytes) (image_end counts)) None f.1 in
    record {
      begins = a.0;
      header = leb-true 20 (length bytes) b.0;
      rows = leb-true counts.rows rows_limit c.0;
      root = leb-true 1 counts.nodes (and_parts (leb 1 counts.nodes) (leb counts.nodes (11 * counts.rows + 1)) d.0).0;
      whole = eqb-true (length bytes) (image_end counts) g.0;
    }

length-nodes_at : (bytes : List ℕ) (place n : ℕ) → length (nodes_at bytes place n) ≡ n
length-nodes_at bytes place zero = refl
length-nodes_at bytes place (suc n) = let l = length-nodes_at bytes (place + 16) n in omega arith

length-rows_at : (bytes : List ℕ) (place n : ℕ) → length (rows_at bytes place n) ≡ n
length-rows_at bytes place zero = refl
length-rows_at bytes place (suc n) = let l = length-rows_at bytes (place + 20) n in omega arith

-- what was read: the parts of the bytes are those of the rows' image
pub record IsRead (bytes : List ℕ) (rows : List Row) : Type 0 where
  pub whole : length bytes ≡ image_end (counts_in bytes)
  pub counts : counts_of rows ≡ counts_in bytes
  pub nodes : nodes_of rows ≡ nodes_at bytes 20 (counts_in bytes).nodes
  pub fields : fields_from 0 rows ≡ rows_at bytes (rows_place (counts_in bytes)) (counts_in bytes).rows
  pub text : text_of rows ≡ drop (text_place (counts_in bytes)) bytes
  pub image : image rows ≡ bytes
  pub map : is_map rows ≡ true
  pub each : list_all is_row rows ≡ true
  pub few : length rows ≤ 250_000

-- the rows for keys that are due
rows_of_due : (bytes : List ℕ) (counts : Counts) (due : Result (List Due) ℕ) (rows : List Row) → rows_for bytes counts due ≡ Ok rows
    → (some : List Due) × (due ≡ Ok some) × (length some ≡ counts.rows) × (read_rows (drop (text_place counts) bytes) (at_rows counts) (zip some (rows_at bytes (rows_place counts) counts.rows)) ≡ Ok rows)
rows_of_due bytes counts (Err place) rows e = absurd (no_ok e)
  where
    no_ok : Err place ≡ Ok rows → ⊥
    no_ok e = cc
rows_of_due bytes counts (Ok due) rows e =
    let read = read_rows (drop (text_place counts) bytes) (at_rows counts) (zip due (rows_at bytes (rows_place counts) counts.rows)) in
    let u = unless_ok (checked (eqb (length due) counts.rows) 8 None) read rows e in
    (due, refl, eqb-true (length due) counts.rows (checked_none (eqb (length due) counts.rows) 8 None u.0).0, u.1)

-- the parts of bytes, one behind the other
whole_parts : (bytes : List ℕ) (n r : ℕ) → bytes ≡ take 20 bytes ++ (part bytes 20 (16 * n) ++ (part bytes (20 + 16 * n) (20 * r) ++ drop (20 + 16 * n + 20 * r) bytes))
whole_parts bytes n r =
    sym (take-append-drop 20 bytes)
    ∙ ap (λ (l : List ℕ). take 20 bytes ++ l)
    (sym (take-append-drop (16 * n) (drop 20 bytes))
    ∙ ap (λ (l : List ℕ). part bytes 20 (16 * n) ++ l)
    (drop-drop (16 * n) 20 bytes ∙ sym (take-append-drop (20 * r) (drop (20 + 16 * n) bytes))
    ∙ ap (λ (l : List ℕ). part bytes (20 + 16 * n) (20 * r) ++ l) (drop-drop (20 * r) (20 + 16 * n) bytes)))

-- the image of rows, by its parts
image_by : (rows : List Row) (counts : Counts) (nodes : List Node) (fields : List RowFields) (text : List ℕ)
    → counts_of rows ≡ counts → nodes_of rows ≡ nodes → fields_from 0 rows ≡ fields → text_of rows ≡ text
    → image rows ≡ header_bytes counts ++ (flat_map node_bytes nodes ++ (flat_map row_bytes fields ++ text))
unfolding image
image_by rows counts nodes fields text c n f t =
    ap (λ (x : Counts). header_bytes x ++ (flat_map node_bytes (nodes_of rows) ++ (flat_map row_bytes (fields_from 0 rows) ++ text_of rows))) c
    ∙ ap (λ (x : List Node). header_bytes counts ++ (flat_map node_bytes x ++ (flat_map row_bytes (fields_from 0 rows) ++ text_of rows))) n
    ∙ ap (λ (x : List RowFields). header_bytes counts ++ (flat_map node_bytes nodes ++ (flat_map row_bytes x ++ text_of rows))) f
    ∙ ap (λ (x : List ℕ). header_bytes counts ++ (flat_map node_bytes nodes ++ (flat_map row_bytes fields ++ x))) t

same_counts : (a b : Counts) → a.rows ≡ b.rows → a.nodes ≡ b.nodes → a.text ≡ b.text → a ≡ b
same_counts a b p q r = λ i. record { rows = p i; nodes = q i; text = r i }

-- what was read from a tree and its rows
from_tree : (bytes : List ℕ) (due : List Due) (keys : List (List ℕ)) (rows : List Row) → AreBytes bytes → HeaderFine bytes
    → Tree (node_at bytes 20) (nodes_at bytes 36 ((counts_in bytes).nodes - 1)) due keys → length due ≡ (counts_in bytes).rows
    → RowsFine (drop (text_place (counts_in bytes)) bytes) (at_rows (counts_in bytes)) due (rows_at bytes (rows_place (counts_in bytes)) (counts_in bytes).rows)
    → rows ≡ rows_read (drop (text_place (counts_in bytes)) bytes) due (rows_at bytes (rows_place (counts_in bytes)) (counts_in bytes).rows)
    → IsRead bytes rows
from_tree bytes due keys rows are h tree count fine same =
    let counts = counts_in bytes in
    let root = node_at bytes 20 in
    let others = nodes_at bytes 36 (counts.nodes - 1) in
    let text = drop (text_place counts) bytes in
    let fields = rows_at bytes (rows_place counts) counts.rows in
    let root_one = h.root in
    let whole = h.whole in
    let lengths : length due ≡ length fields = count ∙ sym (length-rows_at bytes (rows_place counts) counts.rows) in
    let row_keys : map (λ (row : Row). row.key) rows ≡ due_keys due = ap (map (λ (row : Row). row.key)) same ∙ keys_again text due fields lengths in
    let reads : Reads root others due keys rows = record { tree = tree; row_keys = row_keys } in
    let keys_same = same_keys root others due keys rows reads in
    let nodes : nodes_of rows ≡ root ∷ others = ap (nodes_from rows 1 0) keys_same ∙ sym (tree.again rows (counted_all root others due keys rows reads)) in
    let n_count : length (node_keys rows) ≡ counts.nodes = let a = ap length keys_same in let b = tree.lengths in let c = length-nodes_at bytes 36 (counts.nodes - 1) in omega arith in
    let r_count : length rows ≡ counts.rows = let a = ap length row_keys in let b = length-map rows (λ (row : Row). row.key) in let c = length-map due (λ (d : Due). d.key) in omega arith in
    let f_same : fields_from 0 rows ≡ fields = ap (fields_from 0) same ∙ sym (fields_again text (at_rows counts) due fields lengths fine) in
    let t_same : text_of rows ≡ text = ap text_of same ∙ sym (text_again text (at_rows counts) due fields fine) in
    let t_count : length (text_of rows) ≡ counts.text = let a = ap length t_same in let b = length-drop (text_place counts) bytes in omega arith in
    let all_nodes : root ∷ others ≡ nodes_at bytes 20 counts.nodes = let e : suc (counts.nodes - 1) ≡ counts.nodes = omega arith in ap (nodes_at bytes 20) e in
    let due_fit : (key : List ℕ) → In key (due_keys due) → KeyFits key = λ key i. fit tree key (due_at (λ (n : Node). n.rows) key keys others (subst (In key) (ap due_keys (rows_behind tree)) i)) in
    let rise = rows_rise text (record { key = []; phrase = []; freq = 0; time = 0 }) (at_rows counts) due fields fine
    (subst (Links []) (sym (rows_behind tree)) (links_by (λ (n : Node). n.rows) [] keys others tree.up.0 tree.up.1)) refl in
    record {
      whole = whole;
      counts = same_counts (counts_of rows) counts r_count n_count t_count;
      nodes = nodes ∙ all_nodes;
      fields = f_same;
      text = t_same;
      image = image_by rows counts (nodes_at bytes 20 counts.nodes) fields text
          (same_counts (counts_of rows) counts r_count n_count t_count) (nodes ∙ all_nodes) f_same t_same
          ∙ ap (λ (l : List ℕ). l ++ (flat_map node_bytes (nodes_at bytes 20 counts.nodes) ++ (flat_map row_bytes fields ++ text))) (header_back bytes are h.begins h.header)
          ∙ ap (λ (l : List ℕ). take 20 bytes ++ (l ++ (flat_map row_bytes fields ++ text))) (nodes_back bytes 20 counts.nodes are (omega arith))
          ∙ ap (λ (l : List ℕ). take 20 bytes ++ (part bytes 20 (16 * counts.nodes) ++ (l ++ text))) (rows_back bytes (rows_place counts) counts.rows are (omega arith))
          ∙ sym (whole_parts bytes counts.nodes counts.rows);
      map = ap is_map same ∙ map_from (rows_read text due fields) rise.1;
      each = ap (list_all is_row) same ∙ each_row text (at_rows counts) due fields fine due_fit;
      few = let f = h.rows in omega arith;
    }
  where
    rows_behind : (t : Tree (node_at bytes 20) (nodes_at bytes 36 ((counts_in bytes).nodes - 1)) due keys) → due ≡ due_by (λ (n : Node). n.rows) keys (nodes_at bytes 36 ((counts_in bytes).nodes - 1))
    rows_behind t = t.rows ∙ ap (λ (k : ℕ). due_under [] k ++ due_by (λ (n : Node). n.rows) keys (nodes_at bytes 36 ((counts_in bytes).nodes - 1))) t.no_rows

    fit : (t : Tree (node_at bytes 20) (nodes_at bytes 36 ((counts_in bytes).nodes - 1)) due keys) → (key : List ℕ) → In key keys → KeyFits key
    fit t = t.fit

-- bytes that are read without a fault are an image
pub is_read : (bytes : List ℕ) (rows : List Row) → AreBytes bytes → image_reading bytes ≡ Ok rows → IsRead bytes rows
unfolding image_reading
is_read bytes rows are e =
    let counts = counts_in bytes in
    let u = unless_ok (header_fault bytes) (rows_for bytes counts (keys_due bytes counts)) rows e in
    let h = header_fine bytes u.0 in
    let d = rows_of_due bytes counts (keys_due bytes counts) rows u.1 in
    let n : counts.nodes ≡ 1 + length (nodes_at bytes 36 (counts.nodes - 1)) = let l = length-nodes_at bytes 36 (counts.nodes - 1) in let r = h.root in omega arith in
    let t = tree_read counts (node_at bytes 20) (nodes_at bytes 36 (counts.nodes - 1)) d.0 n d.1 in
    let r = rows_ok (drop (text_place counts) bytes) (at_rows counts) d.0 (rows_at bytes (rows_place counts) counts.rows) rows (d.2 ∙ sym (length-rows_at bytes (rows_place counts) counts.rows)) d.3 in
    from_tree bytes d.0 t.0 rows are h t.1 d.2 r.0 r.1

-- the same by the first faulty place
pub place_none : (bytes : List ℕ) → image_place bytes ≡ None → image_reading bytes ≡ Ok (rows_in bytes)
place_none bytes e = by (image_reading bytes) e
  where
    by : (r : Result (List Row) ℕ) → result_err r ≡ None → r ≡ Ok (result_unwrap_or r [])
    by (Ok rows) e = refl
    by (Err place) e = absurd (no_place e)
      where
        no_place : Some place ≡ None → ⊥
        no_place e = cc
