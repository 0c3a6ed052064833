-- The rows of an image are read without a fault.
use Rattle.std.proofs.Common.{◌≡◌, ℕ, ◌+◌, ◌≤◌, Bool, true, false, ◌&&◌, ◌||◌, eqb, leb, List, [], ◌∷◌, ◌++◌, length, take, drop, replicate, Option, None, Ok, Err, refl, sym, ap, ap₂, ◌∙◌, inl, inr, Ordering, Less, is_lt, nat_cmp, true≢false, arith}
use Rattle.std.specs.Bool.{⊤}
use Rattle.std.specs.Cmp.Lexicographic.{slice_cmp}
use Rattle.std.specs.List.{flat_map, zip}
use Rattle.std.specs.Ordering.{ordering_then}
use Rattle.std.specs.Str.{chars}
use Rattle.std.proofs.lemmas.Bool.{and_from, cond-true, eq-eqb, le-leb}
use Rattle.std.proofs.lemmas.Cmp.{nat_cmp_total, nat_list_cmp_total, tied_itself}
use Rattle.std.proofs.lemmas.List.{append-nil, append_assoc, drop_at, length-append, take_at}
use Rattle.chew_spec_syllable.specs.Phrase.{is_phrase}
use Rattle.chew_spec_syllable.specs.Row.{Row, greatest_freq}
use Rattle.chew_spec_dictionary.specs.System.{is_under, rows_under}
use Rattle.chew_spec_dictionary.proofs.ImageOrder.{image_parts}
use Rattle.chew_spec_image.specs.Fields.{RowFields}
use Rattle.chew_spec_image.specs.Image.{fields_from, row_count, text_of}
use Rattle.chew_spec_image.specs.ReadNodes.{Due, due_under, unless_fault, with_front}
use Rattle.chew_spec_image.specs.ReadRows.{RowsRead, past_row, phrase_fits, phrase_in, read_rows, row_fault, row_of}
use Rattle.chew_spec_image.proofs.Bounds.{IsRow}
use Rattle.chew_spec_image.proofs.Families.{RowBelow, under_key}
use Rattle.chew_spec_image.proofs.ImageNodes.{checked_true, dues}
use Rattle.chew_spec_image.proofs.Rising.{Above, In, Up, in_filter}

-- what is due, beside the rows that come: the key of each, and those that aren't first follow one of theirs
abbrev pub RowsFollow : Row → List Due → List Row → Type 0
RowsFollow last [] [] = ⊤
RowsFollow last [] (row ∷ rows) = ⊥
RowsFollow last (due ∷ later) [] = ⊥
RowsFollow last (due ∷ later) (row ∷ rows) = (due.key ≡ row.key) × (due.first ≡ false → last.key ≡ row.key) × RowsFollow row later rows

follow_others : (key : List ℕ) (last : Row) (rows : List Row) (due : List Due) (rest : List Row) → last.key ≡ key → ((row : Row) → In row rows → row.key ≡ key) → ((row : Row) → RowsFollow row due rest)
    → RowsFollow last (replicate (length rows) (record { key = key; first = false }) ++ due) (rows ++ rest)
follow_others key last [] due rest k each behind = behind last
follow_others key last (row ∷ rows) due rest k each behind =
    let e = each row (inl refl) in (sym e, (λ _. k ∙ sym e), follow_others key row rows due rest e (λ r i. each r (inr i)) behind)

follow_family : (key : List ℕ) (last : Row) (rows : List Row) (due : List Due) (rest : List Row) → ((row : Row) → In row rows → row.key ≡ key) → ((row : Row) → RowsFollow row due rest)
    → RowsFollow last (due_under key (length rows) ++ due) (rows ++ rest)
follow_family key last [] due rest each behind = behind last
follow_family key last (row ∷ rows) due rest each behind =
    let e = each row (inl refl) in (sym e, (λ no_first. absurd (true≢false no_first)), follow_others key row rows due rest e (λ r i. each r (inr i)) behind)

pub follow_all : (rows : List Row) (keys : List (List ℕ)) (last : Row) → RowsFollow last (dues (row_count rows) keys) (flat_map (rows_under rows) keys)
follow_all rows [] last = tt
follow_all rows (key ∷ keys) last = follow_family key last (rows_under rows key) (dues (row_count rows) keys) (flat_map (rows_under rows) keys)
    (λ row i. under_key key row (in_filter (is_under key) row rows i).1) (λ row. follow_all rows keys row)

-- as many are due as there are rows
pub follow_length : (last : Row) (due : List Due) (rows : List Row) → RowsFollow last due rows → length due ≡ length rows
follow_length last [] [] f = refl
follow_length last [] (row ∷ rows) f = absurd f
follow_length last (due ∷ later) [] f = absurd f
follow_length last (due ∷ later) (row ∷ rows) f = let l = follow_length row later rows f.2 in omega arith

-- of rows of one key the phrases rise
phrases_rise : (row other : Row) → row.key ≡ other.key → RowBelow row other → slice_cmp nat_cmp row.phrase other.phrase ≡ Less
phrases_rise row other same below =
    sym (ap (λ (k : List ℕ). ordering_then (nat_cmp (length row.key) (length k)) (ordering_then (slice_cmp nat_cmp row.key k) (slice_cmp nat_cmp row.phrase other.phrase))) (sym same)
    ∙ ap (λ (o : Ordering). ordering_then o (ordering_then (slice_cmp nat_cmp row.key row.key) (slice_cmp nat_cmp row.phrase other.phrase))) (tied_itself nat_cmp_total (length row.key))
    ∙ ap (λ (o : Ordering). ordering_then o (slice_cmp nat_cmp row.phrase other.phrase)) (tied_itself nat_list_cmp_total row.key))
    ∙ sym (image_parts row other) ∙ below

-- the rows that come are read
pub rows_walk : (text before : List ℕ) (last : Row) (due : List Due) (read : RowsRead) (rows : List Row)
    → text ≡ before ++ text_of rows → read.text_start ≡ length before → read.phrase ≡ last.phrase → RowsFollow last due rows → Above RowBelow last rows → Up RowBelow rows
    → ((row : Row) → In row rows → IsRow row)
    → read_rows text read (zip due (fields_from read.text_start rows)) ≡ Ok rows
rows_walk text before last [] read [] t s p f a u is =
    cond-true (eqb read.text_start (length text)) (Ok []) (Err 16) (eq-eqb read.text_start (length text) (s ∙ ap length (sym (t ∙ append-nil before))))
rows_walk text before last [] read (row ∷ rows) t s p f a u is = absurd f
rows_walk text before last (due ∷ later) read [] t s p f a u is = absurd f
rows_walk text before last (due ∷ later) read (row ∷ rows) t s p f a u is =
    let here = is row (inl refl) in
    let fields : RowFields = record { freq = row.freq; text_start = read.text_start; text_len = length row.phrase; time = row.time } in
    let phrase : phrase_in text fields ≡ row.phrase =
    ap (λ (x : List ℕ). take (length row.phrase) (drop read.text_start x)) t
    ∙ ap (take (length row.phrase)) (drop_at before (row.phrase ++ text_of rows) read.text_start (sym s))
    ∙ take_at row.phrase (text_of rows) (length row.phrase) refl in
    let within : read.text_start + length row.phrase ≤ length text =
    let l = ap length t in let b = length-append before (row.phrase ++ text_of rows) in let c = length-append row.phrase (text_of rows) in omega arith in
    let lengths : length (chars (phrase_in text fields)) ≡ length due.key = ap (λ (x : List ℕ). length (chars x)) phrase ∙ here.lengths ∙ ap length (sym f.0) in
    let above : (due.first || is_lt (slice_cmp nat_cmp read.phrase (phrase_in text fields))) ≡ true = first_or_above due.first refl (phrase_in text fields) phrase in
    let fault : row_fault text (length due.key) due.first read fields ≡ None =
    checked_true (leb row.freq greatest_freq) read.place _ (le-leb row.freq greatest_freq here.freq)
    (checked_true (eqb read.text_start read.text_start) (read.place + 4) _ (eq-eqb read.text_start read.text_start refl)
    (checked_true (leb (read.text_start + length row.phrase) (length text) && phrase_fits (length due.key) due.first read (phrase_in text fields)) (read.place + 8) None
    (and_from (leb (read.text_start + length row.phrase) (length text)) _ (le-leb (read.text_start + length row.phrase) (length text) within)
    (and_from (is_phrase (phrase_in text fields)) _ (ap is_phrase phrase ∙ here.phrase)
    (and_from (eqb (length (chars (phrase_in text fields))) (length due.key)) _ (eq-eqb (length (chars (phrase_in text fields))) (length due.key) lengths) above))) refl)) in
    let mine : row_of text due fields ≡ row = same f.0 phrase in
    let rest = rows_walk text (before ++ row.phrase) row later (past_row text read fields) rows
    (t ∙ sym (append_assoc before row.phrase (text_of rows)))
    (let l = length-append before row.phrase in omega arith) phrase f.2 u.0 u.1 (λ r i. is r (inr i)) in
    ap (λ (o : Option ℕ). unless_fault o (with_front (row_of text due fields ∷ []) (read_rows text (past_row text read fields) (zip later (fields_from (read.text_start + length row.phrase) rows))))) fault
    ∙ ap (λ (r : Row). with_front (r ∷ []) (read_rows text (past_row text read fields) (zip later (fields_from (read.text_start + length row.phrase) rows)))) mine
    ∙ ap (with_front (row ∷ [])) rest
  where
    first_or_above : (b : Bool) → due.first ≡ b → (phrase : List ℕ) → phrase ≡ row.phrase → (b || is_lt (slice_cmp nat_cmp read.phrase phrase)) ≡ true
    first_or_above true e phrase q = refl
    first_or_above false e phrase q = ap is_lt (ap₂ (slice_cmp nat_cmp) p q ∙ phrases_rise last row (f.1 e) a.0)

    same : due.key ≡ row.key → {phrase : List ℕ} → phrase ≡ row.phrase → record { key = due.key; phrase = phrase; freq = row.freq; time = row.time } ≡ row
    same k q = λ i. record { key = k i; phrase = q i; freq = row.freq; time = row.time }
