-- The rows that are read without a fault: their fields, their phrases and their order.
use Rattle.std.proofs.Common.{◌≡◌, ℕ, zero, suc, ◌+◌, ◌≤◌, Bool, true, false, ◌&&◌, ◌||◌, eqb, leb, cond, List, [], ◌∷◌, ◌++◌, length, map, take, drop, replicate, None, Result, Ok, Err, refl, sym, ap, ap₂, ◌∙◌, inl, inr, ⊎_elim, Ordering, Less, is_lt, nat_cmp, true≢false, arith}
use Rattle.std.specs.Cmp.Lexicographic.{slice_cmp}
use Rattle.std.specs.List.{list_all, zip}
use Rattle.std.specs.Ordering.{ordering_then}
use Rattle.std.specs.Str.{chars}
use Rattle.std.proofs.lemmas.Bool.{and_from, and_parts, eq-eqb, eqb-true, le-leb, leb-true, or_cases}
use Rattle.std.proofs.lemmas.Cmp.{nat_cmp_total, nat_list_cmp_total, tied_itself}
use Rattle.std.proofs.lemmas.List.{drop-drop, drop_all, length-drop, length-take-le, take-append-drop}
use Rattle.chew_spec_syllable.specs.Key.{is_key}
use Rattle.chew_spec_syllable.specs.Phrase.{is_phrase}
use Rattle.chew_spec_syllable.specs.Row.{Row, greatest_freq, image_cmp, is_pair, is_row}
use Rattle.chew_spec_syllable.specs.Syllable.{is_code}
use Rattle.chew_spec_dictionary.specs.Dictionary.{is_map}
use Rattle.chew_spec_dictionary.proofs.ImageOrder.{image_parts, image_total}
use Rattle.chew_spec_image.specs.Fields.{Node, RowFields}
use Rattle.chew_spec_image.specs.Image.{fields_from, text_of}
use Rattle.chew_spec_image.specs.ReadNodes.{Due, due_under, with_front}
use Rattle.chew_spec_image.specs.ReadRows.{RowsRead, past_row, phrase_fits, phrase_in, read_rows, row_fault, row_of}
use Rattle.chew_spec_image.proofs.Counting.{due_keys}
use Rattle.chew_spec_image.proofs.Families.{RowBelow, less_from, rows_below}
use Rattle.chew_spec_image.proofs.KeyOrder.{KeyBelow}
use Rattle.chew_spec_image.proofs.ReadKeys.{Links, checked_none, due_by, front_ok, unless_ok}
use Rattle.chew_spec_image.proofs.ReadTree.{KeyFits}
use Rattle.chew_spec_image.proofs.Rising.{Above, In, Up, above_from, above_in}

-- what a row without a fault keeps
pub record RowFine (text : List ℕ) (due : Due) (read : RowsRead) (fields : RowFields) : Type 0 where
  pub freq : fields.freq ≤ greatest_freq
  pub start : fields.text_start ≡ read.text_start
  pub within : read.text_start + fields.text_len ≤ length text
  pub phrase : is_phrase (phrase_in text fields) ≡ true
  pub lengths : length (chars (phrase_in text fields)) ≡ length due.key
  pub above : due.first ≡ false → slice_cmp nat_cmp read.phrase (phrase_in text fields) ≡ Less

row_fine : (text : List ℕ) (due : Due) (read : RowsRead) (fields : RowFields) → row_fault text (length due.key) due.first read fields ≡ None → RowFine text due read fields
row_fine text due read fields e =
    let phrase = phrase_in text fields in
    let a = checked_none (leb fields.freq greatest_freq) read.place _ e in
    let b = checked_none (eqb fields.text_start read.text_start) (read.place + 4) _ a.1 in
    let c = checked_none (leb (read.text_start + fields.text_len) (length text) && phrase_fits (length due.key) due.first read phrase) (read.place + 8) None b.1 in
    let d = and_parts (leb (read.text_start + fields.text_len) (length text)) (phrase_fits (length due.key) due.first read phrase) c.0 in
    let f = and_parts (is_phrase phrase) (eqb (length (chars phrase)) (length due.key) && (due.first || is_lt (slice_cmp nat_cmp read.phrase phrase))) d.1 in
    let g = and_parts (eqb (length (chars phrase)) (length due.key)) (due.first || is_lt (slice_cmp nat_cmp read.phrase phrase)) f.1 in
    record {
      freq = leb-true fields.freq greatest_freq a.0;
      start = eqb-true fields.text_start read.text_start b.0;
      within = leb-true (read.text_start + fields.text_len) (length text) d.0;
      phrase = f.0;
      lengths = eqb-true (length (chars phrase)) (length due.key) g.0;
      above = λ other. ⊎_elim (λ (h : due.first ≡ true). absurd (true≢false (sym h ∙ other))) (λ (h : is_lt (slice_cmp nat_cmp read.phrase phrase) ≡ true). less_from (slice_cmp nat_cmp read.phrase phrase) h)
          (or_cases due.first (is_lt (slice_cmp nat_cmp read.phrase phrase)) g.1);
    }

-- rows of which none has a fault, and whose phrases are all of the text
abbrev pub RowsFine : List ℕ → RowsRead → List Due → List RowFields → Type 0
RowsFine text read [] fields = read.text_start ≡ length text
RowsFine text read (due ∷ later) [] = ⊥
RowsFine text read (due ∷ later) (row ∷ rows) = RowFine text due read row × RowsFine text (past_row text read row) later rows

-- the rows
abbrev pub rows_read : List ℕ → List Due → List RowFields → List Row
rows_read text [] fields = []
rows_read text (due ∷ later) [] = []
rows_read text (due ∷ later) (row ∷ rows) = row_of text due row ∷ rows_read text later rows

ended : (b : Bool) (place : ℕ) (rows : List Row) → cond {A = Result (List Row) ℕ} b (Ok []) (Err place) ≡ Ok rows → (b ≡ true) × (rows ≡ [])
ended true place rows e = (refl, (let same : [] ≡ rows = cc in sym same))
ended false place rows e = absurd (no_ok e)
  where
    no_ok : Err place ≡ Ok rows → ⊥
    no_ok e = cc

pub rows_ok : (text : List ℕ) (read : RowsRead) (due : List Due) (fields : List RowFields) (rows : List Row) → length due ≡ length fields → read_rows text read (zip due fields) ≡ Ok rows
    → RowsFine text read due fields × (rows ≡ rows_read text due fields)
rows_ok text read [] fields rows n e = let r = ended (eqb read.text_start (length text)) 16 rows e in (eqb-true read.text_start (length text) r.0, r.1)
rows_ok text read (due ∷ later) [] rows n e = absurd (omega arith)
rows_ok text read (due ∷ later) (row ∷ others) rows n e =
    let more = read_rows text (past_row text read row) (zip later others) in
    let u = unless_ok (row_fault text (length due.key) due.first read row) (with_front (row_of text due row ∷ []) more) rows e in
    let f = front_ok (row_of text due row ∷ []) more rows u.1 in
    let r = rows_ok text (past_row text read row) later others f.0 (omega arith) f.1 in
    ((row_fine text due read row u.0, r.0), f.2 ∙ ap (λ (l : List Row). row_of text due row ∷ l) r.1)

-- how long the phrase of a row is
length-phrase : (text : List ℕ) (due : Due) (read : RowsRead) (row : RowFields) → RowFine text due read row → length (phrase_in text row) ≡ row.text_len
length-phrase text due read row f = let s = f.start in let w = f.within in let d = length-drop row.text_start text in length-take-le row.text_len (drop row.text_start text) (omega arith)

-- the fields are those of the rows
pub fields_again : (text : List ℕ) (read : RowsRead) (due : List Due) (fields : List RowFields) → length due ≡ length fields → RowsFine text read due fields
    → fields ≡ fields_from read.text_start (rows_read text due fields)
fields_again text read [] [] n f = refl
fields_again text read [] (row ∷ rows) n f = absurd (omega arith)
fields_again text read (due ∷ later) [] n f = absurd f
fields_again text read (due ∷ later) (row ∷ rows) n f =
    let len = length-phrase text due read row f.0 in
    let mine : RowFields = record { freq = row.freq; text_start = read.text_start; text_len = length (phrase_in text row); time = row.time } in
    let same : row ≡ mine = same_fields f.0.start (sym len) in
    let rest = fields_again text (past_row text read row) later rows (omega arith) f.1 in
    ap₂ (λ (r : RowFields) (l : List RowFields). r ∷ l) same
    (rest ∙ ap (λ (k : ℕ). fields_from (read.text_start + k) (rows_read text later rows)) (sym len))
  where
    same_fields : row.text_start ≡ read.text_start → row.text_len ≡ length (phrase_in text row) → row ≡ record { freq = row.freq; text_start = read.text_start; text_len = length (phrase_in text row); time = row.time }
    same_fields p q = λ i. record { freq = row.freq; text_start = p i; text_len = q i; time = row.time }

-- the text is that of the rows
pub text_again : (text : List ℕ) (read : RowsRead) (due : List Due) (fields : List RowFields) → RowsFine text read due fields → drop read.text_start text ≡ text_of (rows_read text due fields)
text_again text read [] fields f = drop_all read.text_start text (omega arith)
text_again text read (due ∷ later) [] f = absurd f
text_again text read (due ∷ later) (row ∷ rows) f =
    let rest = text_again text (past_row text read row) later rows f.1 in
    let start = f.0.start in
    sym (take-append-drop row.text_len (drop read.text_start text))
    ∙ ap₂ (λ (a b : List ℕ). a ++ b) (ap (λ (k : ℕ). take row.text_len (drop k text)) (sym start)) (drop-drop row.text_len read.text_start text ∙ rest)

-- the keys are those that were due
pub keys_again : (text : List ℕ) (due : List Due) (fields : List RowFields) → length due ≡ length fields → map (λ (row : Row). row.key) (rows_read text due fields) ≡ due_keys due
keys_again text [] fields n = refl
keys_again text (due ∷ later) [] n = absurd (omega arith)
keys_again text (due ∷ later) (row ∷ rows) n = ap (λ (l : List (List ℕ)). due.key ∷ l) (keys_again text later rows (omega arith))

-- each is a row where its key is one
pub each_row : (text : List ℕ) (read : RowsRead) (due : List Due) (fields : List RowFields) → RowsFine text read due fields → ((key : List ℕ) → In key (due_keys due) → KeyFits key) → list_all is_row (rows_read text due fields) ≡ true
each_row text read [] fields f k = refl
each_row text read (due ∷ later) [] f k = absurd f
each_row text read (due ∷ later) (row ∷ rows) f k =
    let fits = k due.key (inl refl) in
    let phrase = phrase_in text row in
    let key : is_key due.key ≡ true = and_from (list_all is_code due.key) _ fits.codes (and_from (leb 1 (length due.key)) (leb (length due.key) 11) (le-leb 1 (length due.key) fits.some) (le-leb (length due.key) 11 fits.few)) in
    let pair : is_pair due.key phrase ≡ true = and_from (is_key due.key) _ key (and_from (is_phrase phrase) _ f.0.phrase (eq-eqb (length (chars phrase)) (length due.key) f.0.lengths)) in
    and_from (is_row (row_of text due row)) (list_all is_row (rows_read text later rows)) (and_from (is_pair due.key phrase) (leb row.freq greatest_freq) pair (le-leb row.freq greatest_freq f.0.freq))
    (each_row text (past_row text read row) later rows f.1 (λ x i. k x (inr i)))

-- rows of one key whose phrases rise
pub phrases_below : (row other : Row) → row.key ≡ other.key → slice_cmp nat_cmp row.phrase other.phrase ≡ Less → RowBelow row other
phrases_below row other same less =
    image_parts row other
    ∙ ap (λ (k : List ℕ). ordering_then (nat_cmp (length row.key) (length k)) (ordering_then (slice_cmp nat_cmp row.key k) (slice_cmp nat_cmp row.phrase other.phrase))) (sym same)
    ∙ ap (λ (o : Ordering). ordering_then o (ordering_then (slice_cmp nat_cmp row.key row.key) (slice_cmp nat_cmp row.phrase other.phrase))) (tied_itself nat_cmp_total (length row.key))
    ∙ ap (λ (o : Ordering). ordering_then o (slice_cmp nat_cmp row.phrase other.phrase)) (tied_itself nat_list_cmp_total row.key)
    ∙ less

-- the rows rise
pub rows_rise : (text : List ℕ) (before : Row) (read : RowsRead) (due : List Due) (fields : List RowFields) → RowsFine text read due fields → Links before.key due → read.phrase ≡ before.phrase
    → Above RowBelow before (rows_read text due fields) × Up RowBelow (rows_read text due fields)
rows_rise text before read [] fields f l p = (tt, tt)
rows_rise text before read (due ∷ later) [] f l p = absurd f
rows_rise text before read (due ∷ later) (row ∷ rows) f l p =
    let mine = row_of text due row in
    let below : RowBelow before mine = ⊎_elim
    (λ (same : (due.first ≡ false) × (due.key ≡ before.key)). phrases_below before mine (sym same.1) (ap (λ (q : List ℕ). slice_cmp nat_cmp q (phrase_in text row)) (sym p) ∙ f.0.above same.0))
    (λ (b : KeyBelow before.key due.key). rows_below before mine b) l.0 in
    let rest = rows_rise text mine (past_row text read row) later rows f.1 l.1 refl in
    ((below, above_from RowBelow before (rows_read text later rows) (λ y i. image_total.trans before mine y below (above_in RowBelow mine y (rows_read text later rows) rest.0 i))), rest)

-- rows that rise are a map
pub map_from : (rows : List Row) → Up RowBelow rows → is_map rows ≡ true
map_from [] u = refl
map_from (row ∷ rows) u = and_from (list_all (λ later. is_lt (image_cmp row later)) rows) (is_map rows) (above rows u.0) (map_from rows u.1)
  where
    above : (others : List Row) → Above RowBelow row others → list_all (λ later. is_lt (image_cmp row later)) others ≡ true
    above [] a = refl
    above (other ∷ others) a = and_from (is_lt (image_cmp row other)) (list_all (λ later. is_lt (image_cmp row later)) others) (ap is_lt a.0) (above others a.1)

-- what is due under keys that rise is linked
links_front : (key : List ℕ) (n : ℕ) (more : List Due) → Links key more → Links key (replicate n (record { key = key; first = false }) ++ more)
links_front key zero more l = l
links_front key (suc n) more l = (inl (refl, refl), links_front key n more l)

pub links_by : (count : Node → ℕ) (before : List ℕ) (keys : List (List ℕ)) (nodes : List Node) → Above KeyBelow before keys → Up KeyBelow keys → Links before (due_by count keys nodes)
links_by count before [] nodes a u = tt
links_by count before (key ∷ keys) [] a u = tt
links_by count before (key ∷ keys) (node ∷ nodes) a u = by (count node) (links_by count before keys nodes a.1 u.1) (links_by count key keys nodes u.0 u.1)
  where
    by : (n : ℕ) → Links before (due_by count keys nodes) → Links key (due_by count keys nodes) → Links before (due_under key n ++ due_by count keys nodes)
    by zero skip next = skip
    by (suc n) skip next = (inr a.0, links_front key n (due_by count keys nodes) next)
