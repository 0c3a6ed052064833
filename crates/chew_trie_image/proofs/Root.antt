-- The first fault of an image whose header has none, by its node 0.
use Rattle.std.proofs.Common.{◌≡◌, ℕ, ◌+◌, ◌-◌, Bool, true, false, eqb, List, [], length, drop, Option, None, Some, Result, Ok, Err, refl, ap, sym, ◌∙◌, arith}
use Rattle.std.specs.List.{zip}
use Rattle.std.specs.Result.{result_err}
use Rattle.chew_spec_syllable.specs.Row.{Row}
use Rattle.chew_spec_image.specs.Fields.{Counts, Node, node_at, nodes_at, rows_at}
use Rattle.chew_spec_image.specs.ReadNodes.{Due, NodesRead, at_root, checked, due_under, past_node, read_nodes, root_fault, unless_fault}
use Rattle.chew_spec_image.specs.ReadRows.{RowsRead, read_rows}
use Rattle.chew_spec_image.specs.Reading.{at_rows, counts_in, header_fault, image_place, image_reading, keys_due, rows_for, rows_place, text_place}
use Rattle.chew_trie_image.specs.Walk.{fault_ahead, fault_of_rows, fault_once_read}

-- a number of rows that isn't as said, or the fault behind it
counted : (b : Bool) (read : Result (List Row) ℕ) → result_err (unless_fault (checked b 8 None) read) ≡ checked b 8 (result_err read)
counted true read = refl
counted false read = refl

-- the fault of the rows for what the nodes say
of_rows : (bytes : List ℕ) (counts : Counts) (due : Result (List Due) ℕ) → result_err (rows_for bytes counts due) ≡ fault_once_read bytes counts 0 None (at_rows counts) due
of_rows bytes counts (Err place) = refl
of_rows bytes counts (Ok due) =
    let n : length due ≡ 0 + length due = omega arith in
    let r : counts.rows ≡ counts.rows - 0 = omega arith in
    let text = drop (text_place counts) bytes in
    counted (eqb (length due) counts.rows) (read_rows text (at_rows counts) (zip due (rows_at bytes (rows_place counts) counts.rows)))
    ∙ ap (λ (k : ℕ). checked (eqb (length due) counts.rows) 8 (result_err (read_rows text (at_rows counts) (zip due (rows_at bytes (rows_place counts) k))))) r
    ∙ ap (λ (k : ℕ). checked (eqb k counts.rows) 8 (fault_of_rows bytes counts 0 (at_rows counts) due)) n

-- the fault of bytes whose header has none
place_is : (bytes : List ℕ) (counts : Counts) → header_fault bytes ≡ None → counts ≡ counts_in bytes → image_place bytes ≡ fault_once_read bytes counts 0 None (at_rows counts) (keys_due bytes counts)
unfolding image_reading
place_is bytes counts none said =
    ap (λ (o : Option ℕ). result_err (unless_fault o (rows_for bytes (counts_in bytes) (keys_due bytes (counts_in bytes))))) none
    ∙ ap (λ (c : Counts). result_err (rows_for bytes c (keys_due bytes c))) (sym said)
    ∙ of_rows bytes counts (keys_due bytes counts)

-- a fault of node 0 is the first one
pub root_fails : (bytes : List ℕ) (counts : Counts) (root : Node) (place : ℕ) → header_fault bytes ≡ None → counts ≡ counts_in bytes → root ≡ node_at bytes 20
    → root_fault counts at_root root ≡ Some place → image_place bytes ≡ Some place
root_fails bytes counts root place none said is some =
    place_is bytes counts none said
    ∙ ap (λ (o : Option ℕ). fault_once_read bytes counts 0 None (at_rows counts) (unless_fault o
    (read_nodes counts (due_under [] (node_at bytes 20).children) (past_node at_root (node_at bytes 20)) (nodes_at bytes 36 (counts.nodes - 1))))) (ap (root_fault counts at_root) (sym is) ∙ some)

-- else its children are read
pub root_passes : (bytes : List ℕ) (counts : Counts) (root : Node) (after : NodesRead) (read : RowsRead) → header_fault bytes ≡ None → counts ≡ counts_in bytes → root ≡ node_at bytes 20
    → root_fault counts at_root root ≡ None → root.rows ≡ 0 → after ≡ past_node at_root root → read ≡ at_rows counts
    → image_place bytes ≡ fault_ahead bytes counts after None read (due_under [] (node_at bytes 20).children) (counts.nodes - 1)
root_passes bytes counts root after read none said is none_here no_rows past at =
    let same : past_node at_root (node_at bytes 20) ≡ after = ap (past_node at_root) (sym is) ∙ sym past in
    let first : 0 ≡ after.next_row = let e = ap (λ (n : NodesRead). n.next_row) past in omega arith in
    let place : 36 ≡ after.place = ap (λ (n : NodesRead). n.place) same in
    let due = due_under [] (node_at bytes 20).children in
    place_is bytes counts none said
    ∙ ap (λ (o : Option ℕ). fault_once_read bytes counts 0 None (at_rows counts) (unless_fault o
    (read_nodes counts due (past_node at_root (node_at bytes 20)) (nodes_at bytes 36 (counts.nodes - 1))))) (ap (root_fault counts at_root) (sym is) ∙ none_here)
    ∙ ap (λ (n : NodesRead). fault_once_read bytes counts 0 None (at_rows counts) (read_nodes counts due n (nodes_at bytes 36 (counts.nodes - 1)))) same
    ∙ ap (λ (k : ℕ). fault_once_read bytes counts 0 None (at_rows counts) (read_nodes counts due after (nodes_at bytes k (counts.nodes - 1)))) place
    ∙ ap (λ (k : ℕ). fault_once_read bytes counts k None (at_rows counts) (read_nodes counts due after (nodes_at bytes after.place (counts.nodes - 1)))) first
    ∙ ap (λ (r : RowsRead). fault_ahead bytes counts after None r due (counts.nodes - 1)) (sym at)

-- a fault of the header is the first one
pub header_fails : (bytes : List ℕ) (place : ℕ) → header_fault bytes ≡ Some place → image_place bytes ≡ Some place
unfolding image_reading
header_fails bytes place some = ap (λ (o : Option ℕ). result_err (unless_fault o (rows_for bytes (counts_in bytes) (keys_due bytes (counts_in bytes))))) some
