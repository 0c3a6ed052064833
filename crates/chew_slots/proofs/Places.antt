-- A faulty place of an image is not far past the image's end, so that it can be told from the slot's front.
use Rattle.std.specs.Prelude.{◌≡◌, ℕ, zero, suc, ◌+◌, ◌-◌, ◌*◌, ◌≤◌, min, cond, Bool, true, false, ◌&&◌, ◌||◌, ◌==◌, nat_le, nat_lt, List, [], ◌∷◌, ◌++◌, length, drop, Option, Some, None, Result, Ok, Err, refl}
use Rattle.std.specs.List.{starts_with, zip}
use Rattle.std.specs.Result.{result_err}
use Rattle.std.proofs.Common.{arith, nat_eq, ap, subst}
use Rattle.chew_spec_syllable.specs.Row.{Row, greatest_freq}
use Rattle.chew_spec_syllable.specs.Syllable.{is_code}
use Rattle.chew_spec_image.specs.Fields.{Counts, Node, RowFields, magic, node_at, nodes_at, rows_at}
use Rattle.chew_spec_image.specs.ReadNodes.{Due, NodesRead, at_root, checked, due_under, node_fault, past_node, read_nodes, root_fault, unless_fault, with_front}
use Rattle.chew_spec_image.specs.ReadRows.{RowsRead, past_row, phrase_fits, phrase_in, read_rows, row_fault, row_of}
use Rattle.chew_spec_image.specs.Image.{rows_limit}
use Rattle.chew_spec_image.specs.Reading.{at_rows, counts_fault, counts_in, header_fault, image_end, image_place, image_reading, keys_due, rows_for, rows_place, text_place}
use Rattle.chew_spec_image.proofs.Unique.{header_fine}

checked-place : (b : Bool) (place n p : ℕ) (next : Option ℕ) → checked b place next ≡ Some p → place ≤ n → (next ≡ Some p → p ≤ n) → p ≤ n
checked-place true place n p next e low behind = behind e
checked-place false place n p next e low behind = subst (λ q. q ≤ n) (same e) low
  where
    same : Some place ≡ Some p → place ≡ p
    same e = cc

no-place : (n p : ℕ) → None ≡ Some p → p ≤ n
no-place n p e = absurd cc

some-same : (q p : ℕ) → Some q ≡ Some p → q ≡ p
some-same q p e = cc

unless-place : {X : Type 0} (fault : Option ℕ) (next : Result X ℕ) (n p : ℕ) → unless_fault fault next ≡ Err p → (fault ≡ Some p → p ≤ n) → (fault ≡ None → next ≡ Err p → p ≤ n) → p ≤ n
unless-place None next n p e here behind = behind refl e
unless-place (Some q) next n p e here behind = here (ap result_err e)

front-err : {X : Type 0} (front : List X) (read : Result (List X) ℕ) (p : ℕ) → with_front front read ≡ Err p → read ≡ Err p
front-err front (Ok found) p e = absurd cc
front-err front (Err place) p e = e

-- nodes
node-place : (counts : Counts) (len : ℕ) (first : Bool) (read : NodesRead) (node : Node) (p : ℕ) → node_fault counts len first read node ≡ Some p → p ≤ read.place + 12
node-place counts len first read node p e =
    checked-place (is_code node.code && (first || nat_lt read.code node.code)) read.place (read.place + 12) p _ e (omega arith)
    (λ e. checked-place (nat_le (read.next_child + node.children) counts.nodes && (nat_lt len 11 || node.children == 0)) (read.place + 2) (read.place + 12) p _ e (omega arith)
    (λ e. checked-place (node.first_child == read.next_child) (read.place + 4) (read.place + 12) p _ e (omega arith)
    (λ e. checked-place (nat_le (read.next_row + node.rows) counts.rows && nat_lt 0 (node.rows + node.children)) (read.place + 8) (read.place + 12) p _ e (omega arith)
    (λ e. checked-place (node.first_row == read.next_row) (read.place + 12) (read.place + 12) p None e (omega arith) (no-place (read.place + 12) p)))))

root-place : (counts : Counts) (read : NodesRead) (node : Node) (p : ℕ) → root_fault counts read node ≡ Some p → p ≤ read.place + 12
root-place counts read node p e =
    checked-place (node.code == 0) read.place (read.place + 12) p _ e (omega arith)
    (λ e. checked-place (nat_le (read.next_child + node.children) counts.nodes) (read.place + 2) (read.place + 12) p _ e (omega arith)
    (λ e. checked-place (node.first_child == read.next_child) (read.place + 4) (read.place + 12) p _ e (omega arith)
    (λ e. checked-place (node.rows == 0) (read.place + 8) (read.place + 12) p _ e (omega arith)
    (λ e. checked-place (node.first_row == read.next_row) (read.place + 12) (read.place + 12) p None e (omega arith) (no-place (read.place + 12) p)))))

nodes-place : (counts : Counts) (due : List Due) (read : NodesRead) (nodes : List Node) (p : ℕ) → read_nodes counts due read nodes ≡ Err p → p ≤ read.place + 16 * length nodes
nodes-place counts due read [] p e = absurd cc
nodes-place counts [] read (node ∷ nodes) p e = let same = some-same read.place p (ap result_err e) in omega arith
nodes-place counts (due ∷ later) read (node ∷ nodes) p e =
    let more = later ++ due_under (due.key ++ node.code ∷ []) node.children in
    let front = due_under (due.key ++ node.code ∷ []) node.rows in
    unless-place (node_fault counts (suc (length due.key)) due.first read node) (with_front front (read_nodes counts more (past_node read node) nodes)) (read.place + 16 * length (node ∷ nodes)) p e
    (λ e. let h = node-place counts (suc (length due.key)) due.first read node p e in omega arith)
    (λ none e. let h = nodes-place counts more (past_node read node) nodes p (front-err front (read_nodes counts more (past_node read node) nodes) p e) in omega arith)

-- rows
row-place : (text : List ℕ) (len : ℕ) (first : Bool) (read : RowsRead) (fields : RowFields) (p : ℕ) → row_fault text len first read fields ≡ Some p → p ≤ read.place + 8
row-place text len first read fields p e =
    checked-place (nat_le fields.freq greatest_freq) read.place (read.place + 8) p _ e (omega arith)
    (λ e. checked-place (fields.text_start == read.text_start) (read.place + 4) (read.place + 8) p _ e (omega arith)
    (λ e. checked-place (nat_le (read.text_start + fields.text_len) (length text) && phrase_fits len first read (phrase_in text fields)) (read.place + 8) (read.place + 8) p None e (omega arith)
    (no-place (read.place + 8) p)))

rows-place : (text : List ℕ) (read : RowsRead) (rows : List (Due × RowFields)) (p : ℕ) → read_rows text read rows ≡ Err p → p ≤ 16 + (read.place + 20 * length rows)
rows-place text read [] p e = by (read.text_start == length text) e
  where
    by : (b : Bool) → cond {A = Result (List Row) ℕ} b (Ok []) (Err 16) ≡ Err p → p ≤ 16 + (read.place + 20 * 0)
    by true e = absurd cc
    by false e = let same = some-same 16 p (ap result_err e) in omega arith
rows-place text read (row ∷ rows) p e =
    let front = row_of text row.0 row.1 ∷ [] in
    unless-place (row_fault text (length row.0.key) row.0.first read row.1) (with_front front (read_rows text (past_row text read row.1) rows)) (16 + (read.place + 20 * length (row ∷ rows))) p e
    (λ e. let h = row-place text (length row.0.key) row.0.first read row.1 p e in omega arith)
    (λ none e. let h = rows-place text (past_row text read row.1) rows p (front-err front (read_rows text (past_row text read row.1) rows) p e) in omega arith)

-- how many there are
length-nodes_at : (bytes : List ℕ) (place n : ℕ) → length (nodes_at bytes place n) ≡ n
length-nodes_at bytes place zero = refl
length-nodes_at bytes place (suc n) = let l = length-nodes_at bytes (place + 16) n in omega arith

length-rows_at : (bytes : List ℕ) (place n : ℕ) → length (rows_at bytes place n) ≡ n
length-rows_at bytes place zero = refl
length-rows_at bytes place (suc n) = let l = length-rows_at bytes (place + 20) n in omega arith

zip-short : {A B : Type 0} (xs : List A) (ys : List B) → length (zip xs ys) ≤ length ys
zip-short [] ys = omega arith
zip-short (x ∷ xs) [] = omega arith
zip-short (x ∷ xs) (y ∷ ys) = let h = zip-short xs ys in omega arith

-- the header
counts-place : (counts : Counts) (len p : ℕ) → counts_fault counts len ≡ Some p → p ≤ len + 16
counts-place counts len p e =
    checked-place (nat_le counts.rows rows_limit) 8 (len + 16) p _ e (omega arith)
    (λ e. checked-place (nat_le 1 counts.nodes && nat_le counts.nodes (11 * counts.rows + 1)) 12 (len + 16) p _ e (omega arith)
    (λ e. checked-place (nat_le counts.text (44 * counts.rows)) 16 (len + 16) p _ e (omega arith)
    (λ e. checked-place (len == image_end counts) (min len (image_end counts)) (len + 16) p None e (omega arith) (no-place (len + 16) p))))

header-place : (bytes : List ℕ) (p : ℕ) → header_fault bytes ≡ Some p → p ≤ length bytes + 16
header-place bytes p e =
    checked-place (starts_with nat_eq bytes magic) 0 (length bytes + 16) p _ e (omega arith)
    (λ e. checked-place (nat_le 20 (length bytes)) (length bytes) (length bytes + 16) p _ e (omega arith) (λ e. counts-place (counts_in bytes) (length bytes) p e))

-- all of it
pub image-place-near : (bytes : List ℕ) (p : ℕ) → image_reading bytes ≡ Err p → p ≤ length bytes + 36
unfolding image_reading
image-place-near bytes p e =
    unless-place (header_fault bytes) (rows_for bytes (counts_in bytes) (keys_due bytes (counts_in bytes))) (length bytes + 36) p e
    (λ e. let h = header-place bytes p e in omega arith)
    (λ none e. behind (header_fine bytes none).whole (header_fine bytes none).root (keys_due bytes (counts_in bytes)) refl e)
  where
    keys : length bytes ≡ image_end (counts_in bytes) → 1 ≤ (counts_in bytes).nodes → (q : ℕ) → keys_due bytes (counts_in bytes) ≡ Err q → q ≤ length bytes + 36
    keys whole root q e =
        let nodes = nodes_at bytes 36 ((counts_in bytes).nodes - 1) in
        let node = node_at bytes 20 in
        unless-place (root_fault (counts_in bytes) at_root node) (read_nodes (counts_in bytes) (due_under [] node.children) (past_node at_root node) nodes) (length bytes + 36) q e
        (λ e. let h = root-place (counts_in bytes) at_root node q e in omega arith)
        (λ none e.
        let h = nodes-place (counts_in bytes) (due_under [] node.children) (past_node at_root node) nodes q e in
        let l = length-nodes_at bytes 36 ((counts_in bytes).nodes - 1) in omega arith)

    behind : length bytes ≡ image_end (counts_in bytes) → 1 ≤ (counts_in bytes).nodes → (r : Result (List Due) ℕ) → keys_due bytes (counts_in bytes) ≡ r → rows_for bytes (counts_in bytes) r ≡ Err p → p ≤ length bytes + 36
    behind whole root (Err q) is e = subst (λ n. n ≤ length bytes + 36) (some-same q p (ap result_err e)) (keys whole root q is)
    behind whole root (Ok due) is e =
        let rows = zip due (rows_at bytes (rows_place (counts_in bytes)) (counts_in bytes).rows) in
        unless-place (checked (length due == (counts_in bytes).rows) 8 None) (read_rows (drop (text_place (counts_in bytes)) bytes) (at_rows (counts_in bytes)) rows) (length bytes + 36) p e
        (λ e. checked-place (length due == (counts_in bytes).rows) 8 (length bytes + 36) p None e (omega arith) (no-place (length bytes + 36) p))
        (λ none e.
        let h = rows-place (drop (text_place (counts_in bytes)) bytes) (at_rows (counts_in bytes)) rows p e in
        let l = length-rows_at bytes (rows_place (counts_in bytes)) (counts_in bytes).rows in
        let z = zip-short due (rows_at bytes (rows_place (counts_in bytes)) (counts_in bytes).rows) in omega arith)

-- the same by the first faulty place
pub place-near : (bytes : List ℕ) (p : ℕ) → image_place bytes ≡ Some p → p ≤ length bytes + 36
place-near bytes p e = image-place-near bytes p (by (image_reading bytes) e)
  where
    by : (r : Result (List Row) ℕ) → result_err r ≡ Some p → r ≡ Err p
    by (Ok rows) e = absurd cc
    by (Err q) e = ap Err (some-same q p e)
