-- Rows that are printed are read as themselves, without their times.
use Rattle.std.proofs.Common.{◌≡◌, ℕ, suc, ◌+◌, ◌<◌, ◌≤◌, Bool, true, false, not, ◌&&◌, ◌||◌, leb, List, [], ◌∷◌, ◌++◌, length, map, Ok, Err, refl, sym, ap, ◌∙◌, arith}
use Rattle.std.specs.List.{flat_map, list_all, list_any}
use Rattle.std.proofs.lemmas.Bool.{and_parts, and_from, or_from, or_parts, le-leb, lt-leb, not-true, not_from_false, cond-true, cond-false}
use Rattle.std.proofs.lemmas.List.{append-nil, append_assoc, length-append, length-map, map-append}
use Rattle.std.proofs.lemmas.List.Folds.{list_all-append, list_any-append, flat_map-map}
use Rattle.chew_spec_syllable.specs.Row.{Row, is_row, is_pair_of, no_pair_twice}
use Rattle.chew_spec_text.specs.DictionaryText.{RowCause, Size, Twice, Rows, dictionary_rows, rows_limit, system_limit, with_fields, with_row}
use Rattle.chew_spec_text.specs.Line.{with_line_feed}
use Rattle.chew_spec_text.specs.Lines.{each_line, go_on, is_line, lines_of, without_return}
use Rattle.chew_spec_text.specs.RowText.{row_text, rows_text, without_time}
use Rattle.chew_spec_text.proofs.EachLine.{behind}
use Rattle.chew_spec_text.proofs.Limited.{accepted}
use Rattle.chew_spec_text.proofs.Lines.{lines_back, stays}
use Rattle.chew_spec_text.proofs.Rows.{apart_back, taken}
use Rattle.chew_spec_text.proofs.Short.{rows_short}
use Rattle.chew_spec_text.proofs.Fields.{fields_read, line_without, made}

-- the row before others is of none of their pairs
apart_before : (rows : List Row) (row : Row) (more : List Row) → no_pair_twice (rows ++ row ∷ more) ≡ true → list_any (is_pair_of row.key row.phrase) rows ≡ false
apart_before [] row more h = refl
apart_before (first ∷ rows) row more h =
    let both = and_parts _ _ h in
    let none = or_parts _ _ (sym (list_any-append (is_pair_of first.key first.phrase) rows (row ∷ more)) ∙ not-true _ both.0) in
    or_from _ _ (apart_back first row (or_parts _ _ none.1).0) (apart_before rows row more both.1)

-- a row's line is read as the row
row_read : (rows : List Row) (row : Row) → is_row row ≡ true → taken rows (row_text row) ≡ with_row rows (Ok (without_time row))
row_read rows row h = ap (with_fields rows) (fields_read row h) ∙ ap (with_row rows) (made row h)

-- behind rows of other pairs, of which there are not too many
row_added : (rows : List Row) (row : Row) (more : List Row) → is_row row ≡ true → no_pair_twice (rows ++ without_time row ∷ more) ≡ true
    → length rows < 250_000 → taken rows (row_text row) ≡ Ok (rows ++ without_time row ∷ [])
row_added rows row more h once few =
    row_read rows row h
    ∙ (cond-false (list_any (is_pair_of row.key row.phrase) rows) _ _ (apart_before rows (without_time row) more once)
    ∙ cond-false (leb rows_limit (length rows)) _ _ (lt-leb _ _ few))

-- rows' lines are read as the rows
rows_added : (number : ℕ) (had rows : List Row) → list_all is_row rows ≡ true → no_pair_twice (had ++ map without_time rows) ≡ true
    → length had + length rows ≤ 250_000 → each_line taken number had (map row_text rows) ≡ Ok (had ++ map without_time rows)
rows_added number had [] h once few = ap Ok (sym (append-nil had))
rows_added number had (row ∷ rows) h once few =
    let both = and_parts _ _ h in
    let more = map without_time rows in
    let joined : (had ++ without_time row ∷ []) ++ more ≡ had ++ without_time row ∷ more = append_assoc had (without_time row ∷ []) more in
    let count : length (had ++ without_time row ∷ []) ≡ length had + 1 = length-append had (without_time row ∷ []) in
    ap (go_on number (λ next. each_line taken (suc number) next (map row_text rows))) (row_added had row more both.0 once (omega arith))
    ∙ (rows_added (suc number) (had ++ without_time row ∷ []) rows both.1 (ap no_pair_twice joined ∙ once) (omega arith) ∙ ap Ok joined)

-- the times are no part of pairs
same_any : (key phrase : List ℕ) (rows : List Row) → list_any (is_pair_of key phrase) (map without_time rows) ≡ list_any (is_pair_of key phrase) rows
same_any key phrase [] = refl
same_any key phrase (row ∷ rows) = ap (λ (b : Bool). is_pair_of key phrase row || b) (same_any key phrase rows)

-- no pair twice, with times or without
still_once : (rows : List Row) → no_pair_twice (map without_time rows) ≡ no_pair_twice rows
still_once [] = refl
still_once (row ∷ rows) =
    ap (λ (b : Bool). not b && no_pair_twice (map without_time rows)) (same_any row.key row.phrase rows)
    ∙ ap (λ (b : Bool). not (list_any (is_pair_of row.key row.phrase) rows) && b) (still_once rows)

-- nor at the front of rows
once_front : (rows more : List Row) → no_pair_twice (rows ++ more) ≡ true → no_pair_twice rows ≡ true
once_front [] more h = refl
once_front (row ∷ rows) more h =
    let both = and_parts _ _ h in
    let none = or_parts _ _ (sym (list_any-append (is_pair_of row.key row.phrase) rows more) ∙ not-true _ both.0) in
    and_from _ _ (not_from_false _ none.0) (once_front rows more both.1)

-- no row's line has a line feed
lines_clean : (rows : List Row) → list_all is_row rows ≡ true → list_all is_line (map row_text rows) ≡ true
lines_clean [] h = refl
lines_clean (row ∷ rows) h =
    let both = and_parts _ _ h in
    and_from _ _ (not_from_false _ (line_without 10 row (omega arith) (λ e. omega arith) both.0)) (lines_clean rows both.1)

-- nor a carriage return
lines_stay : (rows : List Row) → list_all is_row rows ≡ true → map without_return (map row_text rows) ≡ map row_text rows
lines_stay [] h = refl
lines_stay (row ∷ rows) h =
    let both = and_parts _ _ h in
    ap (λ line. line ∷ map without_return (map row_text rows)) (stays (row_text row) (line_without 13 row (omega arith) (λ e. omega arith) both.0))
    ∙ ap (λ lines. row_text row ∷ lines) (lines_stay rows both.1)

-- a text of printed rows is taken by their lines
rows_lines : (rows : List Row) → list_all is_row rows ≡ true → length rows ≤ 250_001
    → dictionary_rows (rows_text rows) ≡ each_line taken 1 [] (map row_text rows ++ [] ∷ [])
unfolding dictionary_rows
rows_lines rows h few =
    let bytes = rows_short rows h in
    let short : length (rows_text rows) ≤ system_limit = omega arith in
    let text_is : rows_text rows ≡ flat_map with_line_feed (map row_text rows) = sym (flat_map-map with_line_feed row_text rows) in
    accepted system_limit Size taken [] (rows_text rows) short
    ∙ ap (each_line taken 1 []) (ap lines_of text_is ∙ lines_back (map row_text rows) (lines_clean rows h) (lines_stay rows h))

-- printed rows are read as themselves
pub rows_read : (rows : List Row) → list_all is_row rows ≡ true → no_pair_twice rows ≡ true → length rows ≤ 250_000
    → dictionary_rows (rows_text rows) ≡ Ok (map without_time rows)
rows_read rows h once few =
    rows_lines rows h (omega arith)
    ∙ behind taken 1 [] (map without_time rows) (map row_text rows) ([] ∷ []) (rows_added 1 [] rows h (still_once rows ∙ once) (omega arith))

-- a row more behind rows that are read is told of by its line
row_behind : (rows : List Row) (row : Row) (cause : RowCause) → list_all is_row (rows ++ row ∷ []) ≡ true → no_pair_twice rows ≡ true
    → length rows ≡ 250_000 → with_row (map without_time rows) (Ok (without_time row)) ≡ Err cause
    → dictionary_rows (rows_text (rows ++ row ∷ [])) ≡ Err (record { line = 250_001; cause = cause })
row_behind rows row cause h once count refused =
    let both = and_parts (list_all is_row rows) (list_all is_row (row ∷ [])) (sym (list_all-append is_row rows (row ∷ [])) ∙ h) in
    let new = map without_time rows in
    let all : length (rows ++ row ∷ []) ≡ length rows + 1 = length-append rows (row ∷ []) in
    let lines : map row_text (rows ++ row ∷ []) ++ [] ∷ [] ≡ map row_text rows ++ (row_text row ∷ ([] ∷ [])) =
    ap (λ ls. ls ++ [] ∷ []) (map-append row_text rows (row ∷ [])) ∙ append_assoc (map row_text rows) (row_text row ∷ []) ([] ∷ []) in
    let number : 1 + length (map row_text rows) ≡ 250_001 = omega (arith, length-map rows row_text) in
    rows_lines (rows ++ row ∷ []) h (omega arith)
    ∙ (ap (each_line taken 1 []) lines
    ∙ (behind taken 1 [] new (map row_text rows) (row_text row ∷ ([] ∷ [])) (rows_added 1 [] rows both.0 (still_once rows ∙ once) (omega arith))
    ∙ (ap (λ n. each_line taken n new (row_text row ∷ ([] ∷ []))) number
    ∙ ap (go_on 250_001 (λ next. each_line taken 250_002 next ([] ∷ []))) (row_read new row (and_parts _ _ both.1).0 ∙ refused))))

-- one row too many
pub row_too_many : (rows : List Row) (row : Row) → list_all is_row (rows ++ row ∷ []) ≡ true → no_pair_twice (rows ++ row ∷ []) ≡ true
    → length rows ≡ 250_000 → dictionary_rows (rows_text (rows ++ row ∷ [])) ≡ Err (record { line = 250_001; cause = Rows })
row_too_many rows row h once count =
    let new = map without_time rows in
    let apart : list_any (is_pair_of row.key row.phrase) new ≡ false = same_any row.key row.phrase rows ∙ apart_before rows row [] once in
    let full : 250_000 ≤ length new = omega (arith, length-map rows without_time) in
    row_behind rows row Rows h (once_front rows (row ∷ []) once) count
    (cond-false (list_any (is_pair_of row.key row.phrase) new) _ _ apart ∙ cond-true (leb rows_limit (length new)) _ _ (le-leb _ _ full))

-- a row of an earlier pair is told for that, also where it is one too many
pub row_again : (rows : List Row) (row : Row) → list_all is_row (rows ++ row ∷ []) ≡ true → no_pair_twice rows ≡ true
    → list_any (is_pair_of row.key row.phrase) rows ≡ true → length rows ≡ 250_000
    → dictionary_rows (rows_text (rows ++ row ∷ [])) ≡ Err (record { line = 250_001; cause = Twice })
row_again rows row h once again count =
    row_behind rows row Twice h once count
    (cond-true (list_any (is_pair_of row.key row.phrase) (map without_time rows)) _ _ (same_any row.key row.phrase rows ∙ again))
