-- No field of an image is past its bytes: how many children a node has, how many nodes there are, and how much text.
use Rattle.std.proofs.Common.{◌≡◌, ℕ, zero, suc, ◌+◌, ◌-◌, ◌*◌, ◌<◌, ◌≤◌, Bool, true, ◌&&◌, ltb, leb, eqb, List, [], ◌∷◌, ◌++◌, length, get_or, take, refl, ap, ◌∙◌, subst, inl, inr, ⊎_elim, arith}
use lib.Utf8.{encodes, encode}
use Rattle.std.specs.Str.{chars, is_utf8}
use Rattle.std.specs.List.{flat_map, list_all, range_with_len}
use Rattle.std.proofs.lemmas.Bool.{and_parts, eqb-true, leb-true}
use Rattle.std.proofs.lemmas.List.{get_or-take, length-append, length-map, length-take-le}
use Rattle.std.proofs.lemmas.List.FromFn.{length-range_with_len}
use Rattle.std.proofs.lemmas.Str.{IsUtf8-from_is_utf8, encodes-chars, len_utf8_bounds, length-encode}
use Rattle.chew_spec_syllable.specs.Key.{is_key}
use Rattle.chew_spec_syllable.specs.Phrase.{begins_phrase, is_allowed, is_phrase}
use Rattle.chew_spec_syllable.specs.Row.{Row, greatest_freq, is_pair, is_row}
use Rattle.chew_spec_syllable.specs.Syllable.{is_code}
use Rattle.chew_spec_syllable.proofs.CodeParts.{code_at_most}
use Rattle.chew_spec_image.specs.Image.{child_count, text_of}
use Rattle.chew_spec_image.specs.NodeKeys.{in_key_order, is_child, key_cmp, last_code, node_keys, prefixes_of, with_key}
use Rattle.chew_spec_image.proofs.Families.{children_in}
use Rattle.chew_spec_image.proofs.KeyOrder.{KeyBelow, child_parts, parent_last, siblings_below}
use Rattle.chew_spec_image.proofs.NodeKeys.{IsPrefix, key_from, keys_up}
use Rattle.chew_spec_image.proofs.Rising.{In, Up, above_in, in_filter, up_filter}
use Rattle.chew_spec_dictionary.proofs.ImageOrder.{by_cases}

-- what each row is
pub record IsRow (row : Row) : Type 0 where
  pub codes : list_all is_code row.key ≡ true
  pub some : 1 ≤ length row.key
  pub few : length row.key ≤ 11
  pub phrase : is_phrase row.phrase ≡ true
  pub lengths : length (chars row.phrase) ≡ length row.key
  pub freq : row.freq ≤ greatest_freq

pub row_parts : (row : Row) → is_row row ≡ true → IsRow row
row_parts row e =
    let a = and_parts (is_pair row.key row.phrase) (leb row.freq greatest_freq) e in
    let b = and_parts (is_key row.key) (is_phrase row.phrase && eqb (length (chars row.phrase)) (length row.key)) a.0 in
    let c = and_parts (list_all is_code row.key) (leb 1 (length row.key) && leb (length row.key) 11) b.0 in
    let d = and_parts (leb 1 (length row.key)) (leb (length row.key) 11) c.1 in
    let f = and_parts (is_phrase row.phrase) (eqb (length (chars row.phrase)) (length row.key)) b.1 in
    record {
      codes = c.0;
      some = leb-true 1 (length row.key) d.0;
      few = leb-true (length row.key) 11 d.1;
      phrase = f.0;
      lengths = eqb-true (length (chars row.phrase)) (length row.key) f.1;
      freq = leb-true row.freq greatest_freq a.1;
    }

-- one of rows that are all such
pub row_in : (row : Row) (rows : List Row) → list_all is_row rows ≡ true → In row rows → IsRow row
row_in row [] e i = absurd i
row_in row (first ∷ rows) e (inl same) = row_parts row (ap is_row same ∙ (and_parts (is_row first) (list_all is_row rows) e).0)
row_in row (first ∷ rows) e (inr i) = row_in row rows (and_parts (is_row first) (list_all is_row rows) e).1 i

-- an element of a list whose elements all pass
pub list_all_at : {X : Type 0} (test : X → Bool) (xs : List X) (i : ℕ) (d : X) → list_all test xs ≡ true → i < length xs → test (get_or xs i d) ≡ true
list_all_at test [] i d e h = absurd (omega arith)
list_all_at test (x ∷ xs) zero d e h = (and_parts (test x) (list_all test xs) e).0
list_all_at test (x ∷ xs) (suc i) d e h = list_all_at test xs i d (and_parts (test x) (list_all test xs) e).1 (omega arith)

-- a node but for node 0 has a syllable's code
pub node_code : (rows : List Row) (key : List ℕ) → list_all is_row rows ≡ true → In key (node_keys rows) → 0 < length key → is_code (last_code key) ≡ true
node_code rows key each i h = ⊎_elim
    (λ (e : key ≡ []). absurd (let l : length key ≡ 0 = ap length e in omega arith))
    (λ (r : (row : Row) × In row rows × IsPrefix key row.key). by r.0 (row_in r.0 rows each r.1) r.2)
    (key_from key rows i)
  where
    by : (row : Row) → IsRow row → IsPrefix key row.key → is_code (last_code key) ≡ true
    by row is p =
        let some = p.some in
        let within = p.within in
        let l : length key ≡ p.len = ap length p.taken ∙ length-take-le p.len row.key within in
        let n : length key - 1 ≡ p.len - 1 = omega arith in
        let at : last_code key ≡ get_or row.key (p.len - 1) 0 = ap (λ (k : ℕ). get_or key k 0) n ∙ ap (λ (k : List ℕ). get_or k (p.len - 1) 0) p.taken ∙ get_or-take p.len row.key (p.len - 1) 0 (omega arith) in
        ap is_code at ∙ list_all_at is_code row.key (p.len - 1) 0 is.codes (omega arith)

-- a node has at most 11 codes
pub node_length : (rows : List Row) (key : List ℕ) → list_all is_row rows ≡ true → In key (node_keys rows) → length key ≤ 11
node_length rows key each i = ⊎_elim
    (λ (e : key ≡ []). let l : length key ≡ 0 = ap length e in omega arith)
    (λ (r : (row : Row) × In row rows × IsPrefix key row.key).
    let within = r.2.within in let few = (row_in r.0 rows each r.1).few in let l : length key ≡ r.2.len = ap length r.2.taken ∙ length-take-le r.2.len r.0.key within in omega arith)
    (key_from key rows i)

-- rising children of one key are at most as many as there are codes from one to another
few_children : (key : List ℕ) (keys : List (List ℕ)) (low high : ℕ) → Up KeyBelow keys → ((x : List ℕ) → In x keys → (is_child key x ≡ true) × (low ≤ last_code x) × (last_code x < high)) → length keys ≤ high - low
few_children key [] low high u each = omega arith
few_children key (x ∷ keys) low high u each =
    let here = each x (inl refl) in
    let at_least = here.1 in
    let below = here.2 in
    let later = few_children key keys (suc (last_code x)) high u.1 (λ y i.
    let e = each y (inr i) in
    let px = child_parts key x here.0 in
    let py = child_parts key y e.0 in
    let xs : x ≡ key ++ last_code x ∷ [] = parent_last x px.0 ∙ ap (λ (k : List ℕ). k ++ last_code x ∷ []) px.1 in
    let ys : y ≡ key ++ last_code y ∷ [] = parent_last y py.0 ∙ ap (λ (k : List ℕ). k ++ last_code y ∷ []) py.1 in
    (e.0, siblings_below key (last_code x) (last_code y) (subst (λ (k : List ℕ). KeyBelow k (key ++ last_code y ∷ [])) xs (subst (KeyBelow x) ys (above_in KeyBelow x y keys u.0 i))), e.2)) in
    omega arith

-- so a node has at most as many children as there are codes
pub child_count_few : (rows : List Row) (key : List ℕ) → list_all is_row rows ≡ true → child_count rows key ≤ 11_245
child_count_few rows key each = few_children key (children_in (node_keys rows) key) 0 11_245 (up_filter KeyBelow (is_child key) (node_keys rows) (keys_up rows))
    (λ x i. let f = in_filter (is_child key) x (node_keys rows) i in
    let top = code_at_most (last_code x) (node_code rows x each f.0 (child_parts key x f.1).0) in
    (f.1, omega arith, omega arith))

-- putting a key to others adds one at most
length-with_key : (key : List ℕ) (keys : List (List ℕ)) → length (with_key key keys) ≤ length keys + 1
length-with_key key [] = omega arith
length-with_key key (first ∷ rest) = let later = length-with_key key rest in
    by_cases (key_cmp key first) (key ∷ (first ∷ rest)) (first ∷ rest) (first ∷ with_key key rest) (λ (l : List (List ℕ)). length l ≤ suc (length rest) + 1)
    (λ e. omega arith) (λ e. omega arith) (λ e. omega arith)

length-in_key_order : (keys : List (List ℕ)) → length (in_key_order keys) ≤ length keys
length-in_key_order [] = omega arith
length-in_key_order (key ∷ keys) = let later = length-in_key_order keys in let w = length-with_key key (in_key_order keys) in omega arith

-- so there are at most 11 nodes a row, and node 0
pub node_count_few : (rows : List Row) → list_all is_row rows ≡ true → length (node_keys rows) ≤ 11 * length rows + 1
node_count_few rows each = let l = length-in_key_order ([] ∷ flat_map (λ (row : Row). prefixes_of row.key) rows) in let p = prefixes rows each in omega arith
  where
    prefixes : (others : List Row) → list_all is_row others ≡ true → length (flat_map (λ (row : Row). prefixes_of row.key) others) ≤ 11 * length others
    prefixes [] e = omega arith
    prefixes (row ∷ others) e =
        let both = and_parts (is_row row) (list_all is_row others) e in
        let few = (row_parts row both.0).few in
        let later = prefixes others both.1 in
        let a = length-append (prefixes_of row.key) (flat_map (λ (r : Row). prefixes_of r.key) others) in
        let m : length (prefixes_of row.key) ≡ length row.key = length-map (range_with_len 1 (length row.key)) (λ n. take n row.key) ∙ length-range_with_len 1 (length row.key) in
        omega arith

-- a phrase has at most 44 bytes
four_each : (cs : List ℕ) → length (encodes cs) ≤ 4 * length cs
four_each [] = omega arith
four_each (c ∷ cs) = let h = four_each cs in let w = length-encode c in let b = len_utf8_bounds c in let l = length-append (encode c) (encodes cs) in omega arith

pub phrase_short : (text : List ℕ) → is_phrase text ≡ true → length text ≤ 44
unfolding is_phrase
phrase_short text e =
    let begins = (and_parts (ltb 0 (length text)) (begins_phrase text) e).1 in
    let u = and_parts (is_utf8 text) (list_all is_allowed (chars text) && leb (length (chars text)) 11) begins in
    let c = and_parts (list_all is_allowed (chars text)) (leb (length (chars text)) 11) u.1 in
    let few = leb-true (length (chars text)) 11 c.1 in
    let h = four_each (chars text) in
    let l = ap length (encodes-chars text (IsUtf8-from_is_utf8 text u.0)) in
    omega arith

-- so there are at most 44 bytes of text a row
pub text_short : (rows : List Row) → list_all is_row rows ≡ true → length (text_of rows) ≤ 44 * length rows
text_short [] e = omega arith
text_short (row ∷ rows) e =
    let both = and_parts (is_row row) (list_all is_row rows) e in
    let later = text_short rows both.1 in
    let here = phrase_short row.phrase (row_parts row both.0).phrase in
    let a = length-append row.phrase (text_of rows) in
    omega arith
