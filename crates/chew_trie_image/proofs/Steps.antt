-- One row or node more, of those that are due.
use Rattle.std.proofs.Common.{◌≡◌, ℕ, zero, suc, ◌+◌, ◌-◌, ◌<◌, ◌≤◌, Bool, false, eqb, List, [], ◌∷◌, ◌++◌, length, drop, replicate, Option, None, Some, Result, Ok, Err, refl, ap, sym, ◌∙◌, arith}
use Rattle.std.specs.List.{zip}
use Rattle.std.specs.Result.{result_err}
use Rattle.std.proofs.lemmas.Bool.{ne_eqb}
use Rattle.std.proofs.lemmas.List.{drop_more, get_or-replicate, length-replicate}
use Rattle.chew_spec_image.specs.Fields.{Counts, RowFields, row_at, rows_at}
use Rattle.chew_spec_image.specs.ReadNodes.{Due, due_under, unless_fault, with_front}
use Rattle.chew_spec_image.specs.ReadRows.{RowsRead, past_row, read_rows, row_fault, row_of}
use Rattle.chew_spec_image.specs.Reading.{text_place}
use Rattle.chew_trie_image.specs.Walk.{fault_of_rows}

-- what stands in front doesn't matter for the fault
pub err_with_front : {X : Type 0} (front : List X) (read : Result (List X) ℕ) → result_err (with_front front read) ≡ result_err read
err_with_front front (Ok found) = refl
err_with_front front (Err place) = refl

-- what is due under a key, from a place on
pub due_more : (key : List ℕ) (n i : ℕ) → i < n → drop i (due_under key n) ≡ record { key = key; first = eqb i 0 } ∷ drop (i + 1) (due_under key n)
due_more key zero i h = absurd (omega arith)
due_more key (suc n) zero h = refl
due_more key (suc n) (suc i) h =
    let others : Due = record { key = key; first = false } in
    let step : suc i + 1 ≡ suc (i + 1) = omega arith in
    let no = ne_eqb (suc i) 0 (λ e. omega arith) in
    drop_more (replicate n others) i others (let l = length-replicate n others in omega arith)
    ∙ ap (λ (d : Due). d ∷ drop (i + 1) (replicate n others)) (get_or-replicate n i others others (omega arith))
    ∙ ap (λ (b : Bool). record { key = key; first = b } ∷ drop (i + 1) (replicate n others)) (sym no)
    ∙ ap (λ (k : ℕ). record { key = key; first = eqb (suc i) 0 } ∷ drop k (due_under key (suc n))) (sym step)

-- a row without a fault is passed, and the others are read behind it
pub row_passes : (bytes : List ℕ) (counts : Counts) (seen : ℕ) (read : RowsRead) (due : Due) (later : List Due) → seen < counts.rows
    → row_fault (drop (text_place counts) bytes) (length due.key) due.first read (row_at bytes read.place) ≡ None
    → fault_of_rows bytes counts seen read (due ∷ later) ≡ fault_of_rows bytes counts (seen + 1) (past_row (drop (text_place counts) bytes) read (row_at bytes read.place)) later
row_passes bytes counts seen read due later h none =
    let text = drop (text_place counts) bytes in
    let row = row_at bytes read.place in
    let left : counts.rows - seen ≡ suc (counts.rows - (seen + 1)) = omega arith in
    let more = read_rows text (past_row text read row) (zip later (rows_at bytes (read.place + 20) (counts.rows - (seen + 1)))) in
    ap (λ (n : ℕ). result_err (read_rows text read (zip (due ∷ later) (rows_at bytes read.place n)))) left
    ∙ ap (λ (fault : Option ℕ). result_err (unless_fault fault (with_front (row_of text due row ∷ []) more))) none
    ∙ err_with_front (row_of text due row ∷ []) more

-- a row with a fault ends the reading
pub row_fails : (bytes : List ℕ) (counts : Counts) (seen : ℕ) (read : RowsRead) (due : Due) (later : List Due) (place : ℕ) → seen < counts.rows
    → row_fault (drop (text_place counts) bytes) (length due.key) due.first read (row_at bytes read.place) ≡ Some place
    → fault_of_rows bytes counts seen read (due ∷ later) ≡ Some place
row_fails bytes counts seen read due later place h some =
    let text = drop (text_place counts) bytes in
    let row = row_at bytes read.place in
    let left : counts.rows - seen ≡ suc (counts.rows - (seen + 1)) = omega arith in
    let more = read_rows text (past_row text read row) (zip later (rows_at bytes (read.place + 20) (counts.rows - (seen + 1)))) in
    ap (λ (n : ℕ). result_err (read_rows text read (zip (due ∷ later) (rows_at bytes read.place n)))) left
    ∙ ap (λ (fault : Option ℕ). result_err (unless_fault fault (with_front (row_of text due row ∷ []) more))) some

-- the next of a key's rows: it has a fault, or the others are read behind it
pub rows_fail : (bytes : List ℕ) (counts : Counts) (key : List ℕ) (count i seen : ℕ) (read : RowsRead) (later : List Due) (text : List ℕ) (row : RowFields) (len : ℕ) (first : Bool) (place : ℕ)
    → i < count → seen + count ≤ counts.rows → text ≡ drop (text_place counts) bytes → row ≡ row_at bytes read.place → length key ≡ len → first ≡ eqb i 0
    → row_fault text len first read row ≡ Some place
    → fault_of_rows bytes counts (seen + i) read (drop i (due_under key count) ++ later) ≡ Some place
rows_fail bytes counts key count i seen read later text row len first place h few t r long f fault =
    ap (λ (due : List Due). fault_of_rows bytes counts (seen + i) read (due ++ later)) (due_more key count i h)
    ∙ row_fails bytes counts (seen + i) read (record { key = key; first = eqb i 0 }) (drop (i + 1) (due_under key count) ++ later) place (omega arith)
    (same_fault t r long f ∙ fault)
  where
    same_fault : text ≡ drop (text_place counts) bytes → row ≡ row_at bytes read.place → length key ≡ len → first ≡ eqb i 0
        → row_fault (drop (text_place counts) bytes) (length key) (eqb i 0) read (row_at bytes read.place) ≡ row_fault text len first read row
    same_fault t r long f = ap (λ z. row_fault z (length key) (eqb i 0) read (row_at bytes read.place)) (sym t)
        ∙ ap (λ z. row_fault text (length key) (eqb i 0) read z) (sym r)
        ∙ ap (λ z. row_fault text z (eqb i 0) read row) long
        ∙ ap (λ z. row_fault text len z read row) (sym f)

pub rows_pass : (bytes : List ℕ) (counts : Counts) (key : List ℕ) (count i seen : ℕ) (read : RowsRead) (later : List Due) (text : List ℕ) (row : RowFields) (len : ℕ) (first : Bool) (after : RowsRead)
    → i < count → seen + count ≤ counts.rows → text ≡ drop (text_place counts) bytes → row ≡ row_at bytes read.place → length key ≡ len → first ≡ eqb i 0
    → row_fault text len first read row ≡ None → after ≡ past_row text read row
    → fault_of_rows bytes counts (seen + i) read (drop i (due_under key count) ++ later)
    ≡ fault_of_rows bytes counts (seen + (i + 1)) after (drop (i + 1) (due_under key count) ++ later)
rows_pass bytes counts key count i seen read later text row len first after h few t r long f none e =
    let due = drop (i + 1) (due_under key count) ++ later in
    ap (λ (due : List Due). fault_of_rows bytes counts (seen + i) read (due ++ later)) (due_more key count i h)
    ∙ row_passes bytes counts (seen + i) read (record { key = key; first = eqb i 0 }) due (omega arith)
    (ap (λ z. row_fault z (length key) (eqb i 0) read (row_at bytes read.place)) (sym t)
    ∙ ap (λ z. row_fault text (length key) (eqb i 0) read z) (sym r)
    ∙ ap (λ z. row_fault text z (eqb i 0) read row) long
    ∙ ap (λ z. row_fault text len z read row) (sym f)
    ∙ none)
    ∙ ap (λ n. fault_of_rows bytes counts n (past_row (drop (text_place counts) bytes) read (row_at bytes read.place)) due) (let k : (seen + i) + 1 ≡ seen + (i + 1) = omega arith in k)
    ∙ ap (λ z. fault_of_rows bytes counts (seen + (i + 1)) (past_row z read (row_at bytes read.place)) due) (sym t)
    ∙ ap (λ z. fault_of_rows bytes counts (seen + (i + 1)) (past_row text read z) due) (sym r)
    ∙ ap (λ z. fault_of_rows bytes counts (seen + (i + 1)) z due) (sym e)
