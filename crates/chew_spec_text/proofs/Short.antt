-- Printed rows are not too long for a system.
use Rattle.std.proofs.Common.{◌≡◌, ℕ, zero, suc, ◌+◌, ◌*◌, ◌/◌, ◌%◌, ◌^◌, ◌<◌, ◌≤◌, Bool, true, false, cond, ◌&&◌, leb, ltb, List, [], ◌∷◌, ◌++◌, length, ap, arith}
use lib.Utf8.{encode, encodes}
use Rattle.std.specs.Prelude.{decimal}
use Rattle.std.specs.List.{flat_map, list_all}
use Rattle.std.specs.Str.{chars, is_utf8}
use Rattle.std.proofs.lemmas.Bool.{and_parts, leb-true}
use Rattle.std.proofs.lemmas.Fmt.{length-decimal-le}
use Rattle.std.proofs.lemmas.List.{length-append}
use Rattle.std.proofs.lemmas.Str.{encodes-chars, IsUtf8-from_is_utf8}
use Rattle.chew_spec_syllable.specs.Phrase.{begins_phrase, is_allowed, is_phrase}
use Rattle.chew_spec_syllable.specs.Row.{Row, is_row}
use Rattle.chew_spec_syllable.specs.Syllable.{Parts, parts_of}
use Rattle.chew_spec_syllable.specs.SyllableText.{initial_marks, medial_marks, final_marks, tone_marks, mark_text, text_of}
use Rattle.chew_spec_text.specs.Line.{with_line_feed}
use Rattle.chew_spec_text.specs.RowText.{spaced, row_text}

-- one of two short texts
either_short : (test : Bool) (xs ys : List ℕ) → length xs ≤ 4 → length ys ≤ 4 → length (cond test xs ys) ≤ 4
either_short true xs ys h k = h
either_short false xs ys h k = k

-- a character has four bytes at most
char_short : (c : ℕ) → length (encode c) ≤ 4
unfolding encode
char_short c =
    let two = (192 + c / 64) ∷ ((128 + c % 64) ∷ []) in
    let three = (224 + c / 4096) ∷ ((128 + c / 64 % 64) ∷ ((128 + c % 64) ∷ [])) in
    let four = (240 + c / 262144) ∷ ((128 + c / 4096 % 64) ∷ ((128 + c / 64 % 64) ∷ ((128 + c % 64) ∷ []))) in
    either_short (ltb c 128) (c ∷ []) (cond (ltb c 2048) two (cond (ltb c 65536) three four)) (omega arith)
    (either_short (ltb c 2048) two (cond (ltb c 65536) three four) (omega arith)
    (either_short (ltb c 65536) three four (omega arith) (omega arith)))

-- so have each of characters
chars_short : (cs : List ℕ) → length (encodes cs) ≤ 4 * length cs
chars_short [] = omega arith
chars_short (c ∷ cs) =
    let first = char_short c in
    let rest = chars_short cs in
    let e : length (encode c ++ encodes cs) ≡ length (encode c) + length (encodes cs) = length-append (encode c) (encodes cs) in
    omega arith

-- a phrase has 11 characters at most
pub phrase_few : (phrase : List ℕ) → is_phrase phrase ≡ true → length (chars phrase) ≤ 11
unfolding is_phrase
phrase_few phrase h =
    let begins = and_parts (ltb 0 (length phrase)) (begins_phrase phrase) h in
    let utf8 = and_parts (is_utf8 phrase) (list_all is_allowed (chars phrase) && leb (length (chars phrase)) 11) begins.1 in
    let allowed = and_parts (list_all is_allowed (chars phrase)) (leb (length (chars phrase)) 11) utf8.1 in
    leb-true _ _ allowed.1

-- its bytes are those of its characters
pub phrase_bytes : (phrase : List ℕ) → is_phrase phrase ≡ true → length (encodes (chars phrase)) ≡ length phrase
unfolding is_phrase
phrase_bytes phrase h =
    let begins = and_parts (ltb 0 (length phrase)) (begins_phrase phrase) h in
    let utf8 = and_parts (is_utf8 phrase) (list_all is_allowed (chars phrase) && leb (length (chars phrase)) 11) begins.1 in
    ap length (encodes-chars phrase (IsUtf8-from_is_utf8 phrase utf8.0))

-- a phrase has 44 bytes at most
phrase_short : (phrase : List ℕ) → is_phrase phrase ≡ true → length phrase ≤ 44
phrase_short phrase h = omega (arith, phrase_few phrase h, phrase_bytes phrase h, chars_short (chars phrase))

-- a mark, or none
mark_short : (marks : List ℕ) (n : ℕ) → length (mark_text marks n) ≤ 4
mark_short marks zero = omega arith
mark_short marks (suc n) = char_short _

-- a syllable has 16 bytes at most
syllable_short : (p : Parts) → length (text_of p) ≤ 16
unfolding text_of
syllable_short p =
    let i = mark_text initial_marks p.initial in
    let m = mark_text medial_marks p.medial in
    let f = mark_text final_marks p.final in
    let t = mark_text tone_marks p.tone in
    let a : length (i ++ (m ++ (f ++ t))) ≡ length i + length (m ++ (f ++ t)) = length-append i (m ++ (f ++ t)) in
    let b : length (m ++ (f ++ t)) ≡ length m + length (f ++ t) = length-append m (f ++ t) in
    let c : length (f ++ t) ≡ length f + length t = length-append f t in
    let short_i : length i ≤ 4 = mark_short initial_marks p.initial in
    let short_m : length m ≤ 4 = mark_short medial_marks p.medial in
    let short_f : length f ≤ 4 = mark_short final_marks p.final in
    let short_t : length t ≤ 4 = mark_short tone_marks p.tone in
    omega arith

-- the syllables of a key, with their spaces
key_short : (key : List ℕ) → length (flat_map spaced key) ≤ 17 * length key
key_short [] = omega arith
key_short (code ∷ key) =
    let first = syllable_short (parts_of code) in
    let rest = key_short key in
    let e : length (text_of (parts_of code) ++ flat_map spaced key) ≡ length (text_of (parts_of code)) + length (flat_map spaced key) = length-append (text_of (parts_of code)) (flat_map spaced key) in
    omega arith

-- the greatest frequency has 8 digits
below : (n : ℕ) → n ≤ 99_999_999 → n < 10 ^ 8
below n h = omega arith

-- what `is_row` says of lengths
record Lengths (row : Row) : Type 0 where
  phrase : length row.phrase ≤ 44
  key : length row.key ≤ 11
  freq : row.freq < 10 ^ 8

-- the test's facts
lengths : (row : Row) → is_row row ≡ true → Lengths row
lengths row h =
    let a = and_parts _ _ h in
    let b = and_parts _ _ a.0 in
    let e = and_parts _ _ b.1 in
    let f = and_parts _ _ b.0 in
    let g = and_parts _ _ f.1 in
    record {
      phrase = phrase_short row.phrase e.0;
      key = leb-true _ _ g.1;
      freq = below row.freq (leb-true _ _ a.1);
    }

-- a frequency has 8 digits at most
digits_short : (n : ℕ) → n < 10 ^ 8 → length (decimal n) ≤ 8
digits_short n h = length-decimal-le 8 n (omega arith) h (omega arith)

-- a line has 241 bytes at most
line_short : (row : Row) → Lengths row → length (with_line_feed (row_text row)) ≤ 241
line_short row h =
    let digits : length (decimal row.freq) ≤ 8 = digits_short row.freq h.freq in
    let key : length (flat_map spaced row.key) ≤ 17 * length row.key = key_short row.key in
    let rest = decimal row.freq ++ flat_map spaced row.key in
    let e : length (row_text row ++ 10 ∷ []) ≡ length (row_text row) + 1 = length-append (row_text row) (10 ∷ []) in
    let f : length (row.phrase ++ (32 ∷ rest)) ≡ length row.phrase + suc (length rest) = length-append row.phrase (32 ∷ rest) in
    let g : length rest ≡ length (decimal row.freq) + length (flat_map spaced row.key) = length-append (decimal row.freq) (flat_map spaced row.key) in
    omega (arith, h.phrase, h.key)

-- so have each of rows
pub rows_short : (rows : List Row) → list_all is_row rows ≡ true → length (flat_map (λ row. with_line_feed (row_text row)) rows) ≤ 241 * length rows
rows_short [] h = omega arith
rows_short (row ∷ rows) h =
    let both = and_parts _ _ h in
    let first : length (with_line_feed (row_text row)) ≤ 241 = line_short row (lengths row both.0) in
    let rest : length (flat_map (λ r. with_line_feed (row_text r)) rows) ≤ 241 * length rows = rows_short rows both.1 in
    let line = with_line_feed (row_text row) in
    let more = flat_map (λ r. with_line_feed (row_text r)) rows in
    let e : length (line ++ more) ≡ length line + length more = length-append line more in
    omega arith
