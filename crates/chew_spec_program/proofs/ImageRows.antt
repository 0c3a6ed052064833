-- What an image and a slot stand for are rows.
use Rattle.std.proofs.Common.{◌≡◌, ℕ, zero, suc, ◌+◌, ◌-◌, ◌≤◌, Bool, true, false, cond, eqb, List, [], ◌++◌, length, None, Some, Result, Ok, Err, refl, sym, ap, ◌∙◌, subst, arith}
use Rattle.std.specs.Prelude.{bytes_eq, drop, take, nat_le, nat_lt}
use Rattle.std.specs.List.{list_all, zip}
use Rattle.std.proofs.lemmas.Bool.{eqb-true}
use Rattle.std.proofs.lemmas.Bool.Decides.{nat_tests}
use Rattle.chew_spec_syllable.specs.Row.{Row, is_row}
use Rattle.chew_spec_image.specs.Fields.{Counts, Node, node_at, nodes_at, rows_at}
use Rattle.chew_spec_image.specs.ReadNodes.{Due, checked, due_under, unless_fault}
use Rattle.chew_spec_image.specs.ReadRows.{read_rows}
use Rattle.chew_spec_image.specs.Reading.{at_rows, counts_in, header_fault, image_reading, keys_due, rows_for, rows_place, text_place}
use Rattle.chew_spec_image.proofs.Counting.{due_keys}
use Rattle.chew_spec_image.proofs.ReadBack.{each_row, rows_ok}
use Rattle.chew_spec_image.proofs.ReadKeys.{checked_none, due_by, unless_ok}
use Rattle.chew_spec_image.proofs.ReadTree.{KeyFits, Tree, tree_read}
use Rattle.chew_spec_image.proofs.Rising.{In}
use Rattle.chew_spec_image.proofs.SameKeys.{due_at}
use Rattle.chew_spec_image.proofs.Unique.{header_fine}
use Rattle.chew_spec_slots.specs.Reading.{SlotReading, Shut, Open, Faulty, as_open, digest_fault, image_in, is_open, life_in, plain_fault, saved_as, saved_in, seq_in, slot_reading}
use Rattle.chew_spec_slots.specs.Recovery.{Recovered, checkpoint_of, newest, recovered}
use Rattle.chew_spec_slots.specs.Slot.{Checkpoint, Saved, digest_magic, magic, rows_limit}
use Rattle.chew_spec_slots.proofs.Found.{recovers}

length-nodes : (bytes : List ℕ) (place n : ℕ) → length (nodes_at bytes place n) ≡ n
length-nodes bytes place zero = refl
length-nodes bytes place (suc n) = let l = length-nodes bytes (place + 16) n in omega arith

length-rows : (bytes : List ℕ) (place n : ℕ) → length (rows_at bytes place n) ≡ n
length-rows bytes place zero = refl
length-rows bytes place (suc n) = let l = length-rows bytes (place + 20) n in omega arith

-- the rows for keys that are due
for-due : (bytes : List ℕ) (counts : Counts) (due : Result (List Due) ℕ) (rows : List Row) → rows_for bytes counts due ≡ Ok rows
    → (some : List Due) × (due ≡ Ok some) × (length some ≡ counts.rows) × (read_rows (drop (text_place counts) bytes) (at_rows counts) (zip some (rows_at bytes (rows_place counts) counts.rows)) ≡ Ok rows)
for-due bytes counts (Err place) rows e = absurd (cc e)
for-due bytes counts (Ok due) rows e =
    let read = read_rows (drop (text_place counts) bytes) (at_rows counts) (zip due (rows_at bytes (rows_place counts) counts.rows)) in
    let u = unless_ok (checked (eqb (length due) counts.rows) 8 None) read rows e in
    (due, refl, eqb-true (length due) counts.rows (checked_none (eqb (length due) counts.rows) 8 None u.0).0, u.1)

-- the keys that are due are those of nodes
due-fits : (root : Node) (others : List Node) (due : List Due) (keys : List (List ℕ)) → Tree root others due keys → (key : List ℕ) → In key (due_keys due) → KeyFits key
due-fits root others due keys t key i =
    let behind : due ≡ due_by (λ (n : Node). n.rows) keys others = t.rows ∙ ap (λ (k : ℕ). due_under [] k ++ due_by (λ (n : Node). n.rows) keys others) t.no_rows in
    t.fit key (due_at (λ (n : Node). n.rows) key keys others (subst (In key) (ap due_keys behind) i))

pub image-rows : (bytes : List ℕ) (rows : List Row) → image_reading bytes ≡ Ok rows → list_all is_row rows ≡ true
unfolding image_reading
image-rows bytes rows e =
    let counts = counts_in bytes in
    let text = drop (text_place counts) bytes in
    let fields = rows_at bytes (rows_place counts) counts.rows in
    let u = unless_ok (header_fault bytes) (rows_for bytes counts (keys_due bytes counts)) rows e in
    let h = header_fine bytes u.0 in
    let d = for-due bytes counts (keys_due bytes counts) rows u.1 in
    let others = nodes_at bytes 36 (counts.nodes - 1) in
    let n : counts.nodes ≡ 1 + length others = let l = length-nodes bytes 36 (counts.nodes - 1) in let r = h.root in omega arith in
    let t = tree_read counts (node_at bytes 20) others d.0 n d.1 in
    let r = rows_ok text (at_rows counts) d.0 fields rows (d.2 ∙ sym (length-rows bytes (rows_place counts) counts.rows)) d.3 in
    ap (list_all is_row) r.1 ∙ each_row text (at_rows counts) d.0 fields r.0 (due-fits (node_at bytes 20) others d.0 t.0 t.1)

-- a checkpoint's rows are rows, and few
pub record AreFewRows (rows : List Row) : Type 0 where
  pub each : list_all is_row rows ≡ true
  pub few : length rows ≤ 200_000

-- the rows of what was read
rows-read : Result Saved ℕ → List Row
rows-read (Ok saved) = saved.checkpoint.rows
rows-read (Err place) = []

same-rows : (read : Result Saved ℕ) (had saved : Saved) → read ≡ Ok had → read ≡ Ok saved → had.checkpoint.rows ≡ saved.checkpoint.rows
unfolding rows-read
same-rows read had saved is e = ap rows-read (sym is ∙ e)

saved-rows : (bytes : List ℕ) (saved : Saved) → saved_as bytes (image_reading (image_in bytes)) ≡ Ok saved → AreFewRows saved.checkpoint.rows
saved-rows bytes saved e = by (image_reading (image_in bytes)) refl e
  where
    few : (rows : List Row) (b : Bool) → nat_le (length rows) rows_limit ≡ b → list_all is_row rows ≡ true
        → cond {A = Result Saved ℕ} b (Ok (record { seq = seq_in bytes; checkpoint = record { life = life_in bytes; rows = rows } })) (Err 41) ≡ Ok saved → AreFewRows saved.checkpoint.rows
    few rows true is each same =
        let this : rows ≡ saved.checkpoint.rows = same-rows _ (record { seq = seq_in bytes; checkpoint = record { life = life_in bytes; rows = rows } }) saved refl same in
        subst AreFewRows this (record { each = each; few = grind (arith, nat_tests) })
    few rows false is each same = absurd (cc same)

    by : (r : Result (List Row) ℕ) → image_reading (image_in bytes) ≡ r → saved_as bytes r ≡ Ok saved → AreFewRows saved.checkpoint.rows
    by (Ok rows) is same = few rows (nat_le (length rows) rows_limit) refl (image-rows (image_in bytes) rows is) same
    by (Err place) is same = absurd (cc same)

open-rows : (bytes : List ℕ) (saved : Saved) → saved_in bytes ≡ Ok saved → AreFewRows saved.checkpoint.rows
unfolding saved_in
open-rows bytes saved is = by (bytes_eq (take 8 (drop 1 bytes)) magic) (bytes_eq (take 8 (drop 1 bytes)) digest_magic) is
  where
    read : Result Saved ℕ
    read = saved_as bytes (image_reading (image_in bytes))

    by : (a b : Bool) → cond a (unless_fault (plain_fault bytes) read) (cond b (unless_fault (digest_fault bytes) read) (Err 1)) ≡ Ok saved → AreFewRows saved.checkpoint.rows
    by true b e = saved-rows bytes saved (unless_ok (plain_fault bytes) read saved e).1
    by false true e = saved-rows bytes saved (unless_ok (digest_fault bytes) read saved e).1
    by false false e = absurd (cc e)

-- a reading that stands for such a checkpoint, where it stands for one
abbrev HasFewRows : SlotReading → Type 0
HasFewRows (Open saved) = AreFewRows saved.checkpoint.rows
HasFewRows Shut = Unit {0}
HasFewRows (Faulty place) = Unit {0}

reading-rows : (bytes : List ℕ) → HasFewRows (slot_reading bytes)
reading-rows bytes = by (is_open bytes) (saved_in bytes) refl
  where
    by : (b : Bool) (read : Result Saved ℕ) → saved_in bytes ≡ read → HasFewRows (cond b (as_open read) Shut)
    by true (Ok saved) is = open-rows bytes saved is
    by true (Err place) is = tt
    by false read is = tt

newest-rows : (zero one : SlotReading) → HasFewRows zero → HasFewRows one → AreFewRows (checkpoint_of (newest zero one)).rows
newest-rows (Open saved) (Open other) h k = by (nat_lt saved.seq other.seq)
  where
    by : (b : Bool) → AreFewRows (checkpoint_of (cond b (Some (record { slot = 1; saved = other })) (Some (record { slot = 0; saved = saved })))).rows
    by true = k
    by false = h
newest-rows (Open saved) Shut h k = h
newest-rows (Open saved) (Faulty place) h k = h
newest-rows Shut (Open other) h k = k
newest-rows Shut Shut h k = record { each = refl; few = omega arith }
newest-rows Shut (Faulty place) h k = record { each = refl; few = omega arith }
newest-rows (Faulty place) (Open other) h k = k
newest-rows (Faulty place) Shut h k = record { each = refl; few = omega arith }
newest-rows (Faulty place) (Faulty other) h k = record { each = refl; few = omega arith }

pub recovered-rows : (zero one : List ℕ) (checkpoint : Checkpoint) → recovered zero one ≡ Recovered checkpoint → AreFewRows checkpoint.rows
recovered-rows first second checkpoint is =
    subst (λ (c : Checkpoint). AreFewRows c.rows) (recovers first second checkpoint is).state
    (newest-rows (slot_reading first) (slot_reading second) (reading-rows first) (reading-rows second))
