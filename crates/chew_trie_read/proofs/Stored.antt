-- What stands in the bytes of an image: its nodes, its rows and their phrases.
use Rattle.std.proofs.Common.{◌≡◌, ℕ, zero, suc, ◌+◌, ◌-◌, ◌*◌, ◌<◌, ◌≤◌, true, ◌&&◌, leb, ltb, List, [], ◌∷◌, length, get_or, take, drop, None, Some, refl, sym, ap, ◌∙◌, subst, sum_by, arith}
use Rattle.std.specs.List.{list_all, slice_get}
use Rattle.std.specs.Str.{IsUtf8, is_utf8, chars}
use Rattle.std.proofs.lemmas.Bool.{and_parts}
use Rattle.std.proofs.lemmas.List.{length-append, take_rest}
use Rattle.std.proofs.lemmas.List.Sums.{sum_by-cons}
use Rattle.std.proofs.lemmas.Option.{slice_get-get_or}
use Rattle.std.proofs.lemmas.Str.{IsUtf8-from_is_utf8}
use Rattle.chew_spec_syllable.specs.Phrase.{begins_phrase, is_allowed, is_phrase}
use Rattle.chew_spec_syllable.specs.Row.{Row}
use Rattle.chew_spec_image.specs.Fields.{AreBytes, Counts, Node, RowFields, node_at, nodes_at, row_at, rows_at}
use Rattle.chew_spec_image.specs.Image.{child_count, fields_from, nodes_from, nodes_of, row_count, text_of}
use Rattle.chew_spec_image.specs.NodeKeys.{last_code, node_keys}
use Rattle.chew_spec_image.specs.ReadRows.{phrase_in}
use Rattle.chew_spec_image.specs.Reading.{counts_in, image_place, rows_in, rows_place, text_place}
use Rattle.chew_spec_image.proofs.Bounds.{node_count_few, row_in}
use Rattle.chew_spec_image.proofs.Unique.{IsRead, is_read, place_none}
use Rattle.chew_trie_read.specs.Search.{IsNode}
use Rattle.chew_trie_read.specs.ImageBytes.{IsStored}
use Rattle.chew_trie_read.proofs.Places.{in_get, part_of, parts_within}

-- what was read of such bytes
pub read_of : (bytes : List ℕ) (counts : Counts) → IsStored bytes counts → IsRead bytes (rows_in bytes)
read_of bytes counts s = is_read bytes (rows_in bytes) s.are (place_none bytes s.whole)

-- how many there are of each
pub rows_counted : (bytes : List ℕ) (counts : Counts) → IsStored bytes counts → counts.rows ≡ length (rows_in bytes)
rows_counted bytes counts s = ap (λ (c : Counts). c.rows) s.counted ∙ sym (ap (λ (c : Counts). c.rows) (read_of bytes counts s).counts)

pub nodes_counted : (bytes : List ℕ) (counts : Counts) → IsStored bytes counts → counts.nodes ≡ length (node_keys (rows_in bytes))
nodes_counted bytes counts s = ap (λ (c : Counts). c.nodes) s.counted ∙ sym (ap (λ (c : Counts). c.nodes) (read_of bytes counts s).counts)

pub nodes_few : (bytes : List ℕ) (counts : Counts) → IsStored bytes counts → length (node_keys (rows_in bytes)) ≤ 2_750_001
nodes_few bytes counts s =
    let read = read_of bytes counts s in
    let n = node_count_few (rows_in bytes) read.each in
    let most = read.few in
    omega arith

-- the header is there
pub header_within : (bytes : List ℕ) → AreBytes bytes → image_place bytes ≡ None → 20 ≤ length bytes
header_within bytes are whole = let w = (is_read bytes (rows_in bytes) are (place_none bytes whole)).whole in omega arith

-- and so are each node, each row and the text
pub node_within : (bytes : List ℕ) (counts : Counts) (i : ℕ) → IsStored bytes counts → i < length (node_keys (rows_in bytes)) → 20 + 16 * i + 16 ≤ length bytes
node_within bytes counts i s h =
    let w = (read_of bytes counts s).whole in
    let n = ap (λ (c : Counts). c.nodes) (read_of bytes counts s).counts in
    omega arith

pub row_within : (bytes : List ℕ) (counts : Counts) (place : ℕ) → IsStored bytes counts → place < length (rows_in bytes) → rows_place counts + 20 * place + 20 ≤ length bytes
row_within bytes counts place s h =
    let w = (read_of bytes counts s).whole in
    let n = ap (λ (c : Counts). c.rows) (read_of bytes counts s).counts in
    let same = ap rows_place s.counted in
    omega arith

pub text_within : (bytes : List ℕ) (counts : Counts) → IsStored bytes counts → text_place counts ≤ length bytes
text_within bytes counts s =
    let w = (read_of bytes counts s).whole in
    let same = ap text_place s.counted in
    omega arith

-- one of several nodes, and one of several rows
node_of_nodes : (bytes : List ℕ) (place n i : ℕ) (d : Node) → i < n → get_or (nodes_at bytes place n) i d ≡ node_at bytes (place + 16 * i)
node_of_nodes bytes place zero i d h = absurd (omega arith)
node_of_nodes bytes place (suc n) zero d h = let e : place ≡ place + 16 * 0 = omega arith in ap (node_at bytes) e
node_of_nodes bytes place (suc n) (suc i) d h =
    let e : place + 16 + 16 * i ≡ place + 16 * suc i = omega arith in
    node_of_nodes bytes (place + 16) n i d (omega arith) ∙ ap (node_at bytes) e

row_of_rows : (bytes : List ℕ) (place n i : ℕ) (d : RowFields) → i < n → get_or (rows_at bytes place n) i d ≡ row_at bytes (place + 20 * i)
row_of_rows bytes place zero i d h = absurd (omega arith)
row_of_rows bytes place (suc n) zero d h = let e : place ≡ place + 20 * 0 = omega arith in ap (row_at bytes) e
row_of_rows bytes place (suc n) (suc i) d h =
    let e : place + 20 + 20 * i ≡ place + 20 * suc i = omega arith in
    row_of_rows bytes (place + 20) n i d (omega arith) ∙ ap (row_at bytes) e

-- a node among those of keys
record NodeFrom (rows : List Row) (child row : ℕ) (keys : List (List ℕ)) (i : ℕ) (node : Node) : Type 0 where
  code : node.code ≡ last_code (get_or keys i [])
  children : node.children ≡ child_count rows (get_or keys i [])
  first_child : node.first_child ≡ child + sum_by (child_count rows) (take i keys)
  rows_here : node.rows ≡ row_count rows (get_or keys i [])
  first_row : node.first_row ≡ row + sum_by (row_count rows) (take i keys)

node_from : (rows : List Row) (child row : ℕ) (keys : List (List ℕ)) (i : ℕ) (d : Node) → i < length keys → NodeFrom rows child row keys i (get_or (nodes_from rows child row keys) i d)
node_from rows child row [] i d h = absurd (omega arith)
node_from rows child row (key ∷ keys) zero d h = record { code = refl; children = refl; first_child = omega arith; rows_here = refl; first_row = omega arith }
node_from rows child row (key ∷ keys) (suc i) d h =
    let later = node_from rows (child + child_count rows key) (row + row_count rows key) keys i d (omega arith) in
    let c = later.first_child in
    let r = later.first_row in
    let more = sum_by-cons (child_count rows) key (take i keys) in
    let own = sum_by-cons (row_count rows) key (take i keys) in
    record { code = later.code; children = later.children; first_child = omega arith; rows_here = later.rows_here; first_row = omega arith }

-- a node in the bytes is that of its key
pub node_stored : (bytes : List ℕ) (counts : Counts) (i : ℕ) → IsStored bytes counts → i < length (node_keys (rows_in bytes)) → IsNode (rows_in bytes) i (node_at bytes (20 + 16 * i))
node_stored bytes counts i s h =
    let rows = rows_in bytes in
    let read = read_of bytes counts s in
    let n : length (node_keys rows) ≡ (counts_in bytes).nodes = ap (λ (c : Counts). c.nodes) read.counts in
    let d = node_at bytes 0 in
    let same : get_or (nodes_of rows) i d ≡ node_at bytes (20 + 16 * i) =
    ap (λ (l : List Node). get_or l i d) read.nodes ∙ node_of_nodes bytes 20 (counts_in bytes).nodes i d (omega arith) in
    let f : NodeFrom rows 1 0 (node_keys rows) i (node_at bytes (20 + 16 * i)) = subst (NodeFrom rows 1 0 (node_keys rows) i) same (node_from rows 1 0 (node_keys rows) i d h) in
    let r = f.first_row in
    record { code = f.code; children = f.children; first_child = f.first_child; rows_here = f.rows_here; first_row = omega arith; within = h }

-- a row among others
record FieldsFrom (rows : List Row) (start i : ℕ) (row : Row) (fields : RowFields) : Type 0 where
  freq : fields.freq ≡ row.freq
  text_start : fields.text_start ≡ start + length (text_of (take i rows))
  text_len : fields.text_len ≡ length row.phrase
  time : fields.time ≡ row.time

fields_at : (rows : List Row) (start i : ℕ) (d : Row) (f : RowFields) → i < length rows → FieldsFrom rows start i (get_or rows i d) (get_or (fields_from start rows) i f)
fields_at [] start i d f h = absurd (omega arith)
fields_at (row ∷ rows) start zero d f h = record { freq = refl; text_start = omega arith; text_len = refl; time = refl }
fields_at (row ∷ rows) start (suc i) d f h =
    let later = fields_at rows (start + length row.phrase) i d f (omega arith) in
    let t = later.text_start in
    let a = length-append row.phrase (text_of (take i rows)) in
    record { freq = later.freq; text_start = omega arith; text_len = later.text_len; time = later.time }

-- the row in the bytes is that at its place, and its phrase is in the text
pub record RowStored (bytes : List ℕ) (place : ℕ) (fields : RowFields) : Type 0 where
  pub row : Row
  pub at : slice_get (rows_in bytes) place ≡ Some row
  pub freq : fields.freq ≡ row.freq
  pub time : fields.time ≡ row.time
  pub phrase : phrase_in (drop (text_place (counts_in bytes)) bytes) fields ≡ row.phrase
  pub text : is_phrase row.phrase ≡ true
  pub within : fields.text_start + fields.text_len ≤ length (drop (text_place (counts_in bytes)) bytes)

pub row_stored : (bytes : List ℕ) (counts : Counts) (place : ℕ) → IsStored bytes counts → place < length (rows_in bytes)
    → RowStored bytes place (row_at bytes (rows_place (counts_in bytes) + 20 * place))
row_stored bytes counts place s h =
    let rows = rows_in bytes in
    let read = read_of bytes counts s in
    let n : length rows ≡ (counts_in bytes).rows = ap (λ (c : Counts). c.rows) read.counts in
    let d : Row = record { key = []; phrase = []; freq = 0; time = 0 } in
    let row = get_or rows place d in
    let f = row_at bytes 0 in
    let start = rows_place (counts_in bytes) in
    let fields = row_at bytes (start + 20 * place) in
    let same : get_or (fields_from 0 rows) place f ≡ fields =
    ap (λ (l : List RowFields). get_or l place f) read.fields ∙ row_of_rows bytes start (counts_in bytes).rows place f (omega arith) in
    let from : FieldsFrom rows 0 place row fields = subst (FieldsFrom rows 0 place row) same (fields_at rows 0 place d f h) in
    let begins = from.text_start in
    let begin : fields.text_start ≡ length (text_of (take place rows)) = omega arith in
    let phrase_of : Row → List ℕ = λ (r : Row). r.phrase in
    let text = drop (text_place (counts_in bytes)) bytes in
    let all = ap length read.text in
    let parts = parts_within phrase_of rows place d h in
    let len = from.text_len in
    record {
      row = row;
      at = slice_get-get_or rows place d h;
      freq = from.freq;
      time = from.time;
      phrase = ap (λ (t : List ℕ). take fields.text_len (drop fields.text_start t)) (sym read.text)
          ∙ ap (λ (k : ℕ). take k (drop fields.text_start (text_of rows))) from.text_len
          ∙ ap (λ (k : ℕ). take (length row.phrase) (drop k (text_of rows))) begin
          ∙ part_of phrase_of rows place d h;
      text = (row_in row rows read.each (in_get rows place d h)).phrase;
      within = omega arith;
    }

-- a phrase is text
pub phrase_is_text : (phrase : List ℕ) → is_phrase phrase ≡ true → IsUtf8 phrase
unfolding is_phrase
phrase_is_text phrase e =
    IsUtf8-from_is_utf8 phrase (and_parts (is_utf8 phrase) (list_all is_allowed (chars phrase) && leb (length (chars phrase)) 11)
    (and_parts (ltb 0 (length phrase)) (begins_phrase phrase) e).1).0

-- a row stands far below the end of its type
pub row_low : (bytes : List ℕ) (counts : Counts) (place : ℕ) → IsStored bytes counts → place < length (rows_in bytes) → rows_place counts + 20 * place + 20 ≤ 60_000_000
row_low bytes counts place s h =
    let read = read_of bytes counts s in
    let n = nodes_counted bytes counts s in
    let few = node_count_few (rows_in bytes) read.each in
    let most = read.few in
    omega arith

-- a row that was read at its place
pub record RowRead (rows : List Row) (place : ℕ) (fields : RowFields) (text : List ℕ) : Type 0 where
  pub row : Row
  pub at : slice_get rows place ≡ Some row
  pub freq : fields.freq ≡ row.freq
  pub time : fields.time ≡ row.time
  pub phrase : phrase_in text fields ≡ row.phrase
  pub text_is : IsUtf8 row.phrase
  pub within : fields.text_start + fields.text_len ≤ length text

pub row_read : (bytes : List ℕ) (counts : Counts) (place at start : ℕ) (fields : RowFields) → IsStored bytes counts → place < length (rows_in bytes)
    → at ≡ rows_place counts → fields ≡ row_at bytes (at + 20 * place) → start ≡ text_place counts
    → RowRead (rows_in bytes) place fields (take (length bytes - start) (drop start bytes))
row_read bytes counts place at start fields s h a f t =
    let r = row_stored bytes counts place s h in
    let where_rows : at ≡ rows_place (counts_in bytes) = a ∙ ap rows_place s.counted in
    let where_text : start ≡ text_place (counts_in bytes) = t ∙ ap text_place s.counted in
    let same : fields ≡ row_at bytes (rows_place (counts_in bytes) + 20 * place) = f ∙ ap (λ (k : ℕ). row_at bytes (k + 20 * place)) where_rows in
    let text : take (length bytes - start) (drop start bytes) ≡ drop (text_place (counts_in bytes)) bytes = take_rest bytes start ∙ ap (λ (k : ℕ). drop k bytes) where_text in
    let read : RowRead (rows_in bytes) place (row_at bytes (rows_place (counts_in bytes) + 20 * place)) (drop (text_place (counts_in bytes)) bytes) =
    record { row = r.row; at = r.at; freq = r.freq; time = r.time; phrase = r.phrase; text_is = phrase_is_text r.row.phrase r.text; within = r.within } in
    subst (λ (x : RowFields). RowRead (rows_in bytes) place x (take (length bytes - start) (drop start bytes))) (sym same)
    (subst (RowRead (rows_in bytes) place (row_at bytes (rows_place (counts_in bytes) + 20 * place))) (sym text) read)

-- the row of these parts
pub row_same : (row : Row) (phrase : List ℕ) (freq time : ℕ) → row.phrase ≡ phrase → row.freq ≡ freq → row.time ≡ time
    → Some row ≡ Some (record { key = row.key; phrase = phrase; freq = freq; time = time })
row_same row phrase freq time p f t = λ i. Some (record { key = row.key; phrase = p i; freq = f i; time = t i })
