-- The fields of a printed row, and the row that they make.
use Rattle.std.proofs.Common.{◌≡◌, ℕ, ◌^◌, ◌<◌, ◌≤◌, Bool, true, false, eqb, leb, ltb, List, [], ◌∷◌, ◌++◌, length, map, Some, Ok, refl, sym, ap, ◌∙◌, arith}
use lib.Utf8.{encode}
use Rattle.std.specs.Prelude.{decimal}
use Rattle.std.specs.List.{filter, flat_map, list_all, list_any, slice_split}
use Rattle.std.specs.Option.{option_and_then, option_map}
use Rattle.std.specs.Result.{result_ok}
use Rattle.std.specs.Str.{chars}
use Rattle.std.proofs.lemmas.Bool.{and_parts, and_from, or_from, eq-eqb, eqb-true, ne_eqb, leb-true, lt-ltb, cond-true}
use Rattle.std.proofs.lemmas.List.{append-nil}
use Rattle.std.proofs.lemmas.List.Folds.{list_any-append}
use Rattle.chew_spec_syllable.specs.Phrase.{is_phrase}
use Rattle.chew_spec_syllable.specs.Row.{Row, greatest_freq, is_row}
use Rattle.chew_spec_syllable.specs.Syllable.{Parts, is_code, parts_of}
use Rattle.chew_spec_syllable.specs.SyllableText.{code_or_place, code_reading, syllable_reading, text_of}
use Rattle.chew_spec_syllable.proofs.CodeParts.{code_back}
use Rattle.chew_spec_syllable.proofs.Reading.{text_read}
use Rattle.chew_spec_text.specs.Digits.{digits_value}
use Rattle.chew_spec_text.specs.DictionaryText.{codes_in, fields_of, freq_in, is_field, is_separator, row_in, row_with}
use Rattle.chew_spec_text.specs.RowText.{spaced, row_text, without_time}
use Rattle.chew_spec_text.proofs.Clean.{clean, clean_without, clean_phrase, clean_decimal, clean_syllable, decimal_number, decimal_value}
use Rattle.chew_spec_text.proofs.Comments.{no_comment}
use Rattle.chew_spec_text.proofs.Splits.{last_part, split_at}

-- such a text is one field
one_field : (bytes : List ℕ) → clean bytes ≡ true → list_any is_separator bytes ≡ false
one_field [] h = refl
one_field (x ∷ bytes) h =
    let both = and_parts _ _ h in
    let high : 48 ≤ x = leb-true _ _ both.0 in
    or_from _ _ (or_from _ _ (ne_eqb x 32 (λ e. omega arith)) (ne_eqb x 9 (λ e. omega arith))) (one_field bytes both.1)

-- the texts of a key's syllables
abbrev texts_of : List ℕ → List (List ℕ)
texts_of key = map (λ code. text_of (parts_of code)) key

-- a field and the syllables behind it
split_key : (field key : List ℕ) → list_any is_separator field ≡ false → list_all is_code key ≡ true
    → slice_split is_separator (field ++ flat_map spaced key) ≡ field ∷ texts_of key
split_key field [] h k = ap (slice_split is_separator) (append-nil field) ∙ last_part is_separator field h
split_key field (code ∷ key) h k =
    let both = and_parts _ _ k in
    let text = text_of (parts_of code) in
    split_at is_separator 32 field (text ++ flat_map spaced key) refl h
    ∙ ap (λ fields. field ∷ fields) (split_key text key (one_field text (clean_syllable (parts_of code) both.0)) both.1)

-- what is read as a syllable is no empty text
some_text : (text : List ℕ) (p : Parts) → syllable_reading text ≡ Ok p → ltb 0 (length text) ≡ true
unfolding syllable_reading encode
some_text [] p h = absurd cc
some_text (x ∷ text) p h = lt-ltb _ _ (omega arith)

-- all are kept
kept_all : (p : List ℕ → Bool) (fields : List (List ℕ)) → list_all p fields ≡ true → filter p fields ≡ fields
kept_all p [] h = refl
kept_all p (field ∷ fields) h =
    let both = and_parts _ _ h in cond-true (p field) _ _ both.0 ∙ ap (λ more. field ∷ more) (kept_all p fields both.1)

-- no text of a key is empty
some_texts : (key : List ℕ) → list_all is_code key ≡ true → list_all is_field (texts_of key) ≡ true
some_texts [] h = refl
some_texts (code ∷ key) h =
    let both = and_parts _ _ h in and_from _ _ (some_text (text_of (parts_of code)) (parts_of code) (text_read (parts_of code) both.0)) (some_texts key both.1)

-- the syllables are read as the codes
code_read : (code : ℕ) → is_code code ≡ true → result_ok (code_reading (text_of (parts_of code))) ≡ Some code
code_read code h = ap (λ r. result_ok (code_or_place r)) (text_read (parts_of code) h) ∙ ap Some (code_back code)

-- the texts of a key are read as the key
key_read : (key : List ℕ) → list_all is_code key ≡ true → codes_in (texts_of key) ≡ Some key
key_read [] h = refl
key_read (code ∷ key) h =
    let both = and_parts _ _ h in
    ap (λ o. option_and_then (λ c. option_map (λ cs. c ∷ cs) (codes_in (texts_of key))) o) (code_read code both.0)
    ∙ ap (option_map (λ cs. code ∷ cs)) (key_read key both.1)

-- what `is_row` says
record RowFacts (row : Row) : Type 0 where
  codes : list_all is_code row.key ≡ true
  phrase : is_phrase row.phrase ≡ true
  lengths : eqb (length (chars row.phrase)) (length row.key) ≡ true
  freq : leb row.freq greatest_freq ≡ true

-- the test's facts
row_facts : (row : Row) → is_row row ≡ true → RowFacts row
row_facts row h =
    let a = and_parts _ _ h in
    let b = and_parts _ _ a.0 in
    let e = and_parts _ _ b.1 in
    record { codes = (and_parts _ _ b.0).0; phrase = e.0; lengths = e.1; freq = a.1 }

-- a frequency is no large number
freq_low : (freq : ℕ) → leb freq greatest_freq ≡ true → freq < 2 ^ 64
freq_low freq h = let high : freq ≤ 99_999_999 = leb-true _ _ h in omega arith

-- a low byte that isn't the space doesn't stand in the texts of a key
key_without : (b : ℕ) (key : List ℕ) → b < 48 → (32 ≡ b → ⊥) → list_all is_code key ≡ true → list_any (λ byte. eqb byte b) (flat_map spaced key) ≡ false
key_without b [] low ne h = refl
key_without b (code ∷ key) low ne h =
    let both = and_parts _ _ h in
    let text = text_of (parts_of code) in
    or_from _ _ (ne_eqb 32 b ne)
    (list_any-append (λ byte. eqb byte b) text (flat_map spaced key)
    ∙ or_from _ _ (clean_without b text low (clean_syllable (parts_of code) both.0)) (key_without b key low ne both.1))

-- nor in a row's line
pub line_without : (b : ℕ) (row : Row) → b < 48 → (32 ≡ b → ⊥) → is_row row ≡ true → list_any (λ byte. eqb byte b) (row_text row) ≡ false
line_without b row low ne h =
    let f = row_facts row h in
    let rest = decimal row.freq ++ flat_map spaced row.key in
    list_any-append (λ byte. eqb byte b) row.phrase (32 ∷ rest)
    ∙ or_from _ _ (clean_without b row.phrase low (clean_phrase row.phrase f.phrase))
    (or_from _ _ (ne_eqb 32 b ne)
    (list_any-append (λ byte. eqb byte b) (decimal row.freq) (flat_map spaced row.key)
    ∙ or_from _ _ (clean_without b (decimal row.freq) low (clean_decimal row.freq (freq_low row.freq f.freq))) (key_without b row.key low ne f.codes)))

-- a phrase isn't empty
some_phrase : (phrase : List ℕ) → is_phrase phrase ≡ true → is_field phrase ≡ true
unfolding is_phrase
some_phrase phrase h = (and_parts (ltb 0 (length phrase)) _ h).0

-- the fields of a row's line
pub fields_read : (row : Row) → is_row row ≡ true → fields_of (row_text row) ≡ row.phrase ∷ (decimal row.freq ∷ texts_of row.key)
fields_read row h =
    let f = row_facts row h in
    let low = freq_low row.freq f.freq in
    let fields = row.phrase ∷ (decimal row.freq ∷ texts_of row.key) in
    let split : slice_split is_separator (row_text row) ≡ fields =
    split_at is_separator 32 row.phrase (decimal row.freq ++ flat_map spaced row.key) refl (one_field row.phrase (clean_phrase row.phrase f.phrase))
    ∙ ap (λ more. row.phrase ∷ more) (split_key (decimal row.freq) row.key (one_field (decimal row.freq) (clean_decimal row.freq low)) f.codes) in
    ap (λ line. filter is_field (slice_split is_separator line)) (no_comment (row_text row) (line_without 35 row (omega arith) (λ e. omega arith) h))
    ∙ (ap (filter is_field) split
    ∙ kept_all is_field fields (and_from _ _ (some_phrase row.phrase f.phrase) (and_from _ _ (and_parts _ _ (decimal_number row.freq low)).0 (some_texts row.key f.codes))))

-- a phrase, a number and a key that make a row
pub made : (row : Row) → is_row row ≡ true → row_in row.phrase (decimal row.freq ∷ texts_of row.key) ≡ Ok (without_time row)
made row h =
    let f = row_facts row h in
    let low = freq_low row.freq f.freq in
    let digits = decimal row.freq in
    let value : digits_value digits ≡ row.freq = decimal_value row.freq low in
    let few : leb (digits_value digits) greatest_freq ≡ true = ap (λ n. leb n greatest_freq) value ∙ f.freq in
    let freq : freq_in (digits ∷ texts_of row.key) ≡ Some row.freq =
    cond-true _ _ _ (and_from _ _ (decimal_number row.freq low) few) ∙ ap Some value in
    let same : length (chars row.phrase) ≡ length row.key = eqb-true _ _ f.lengths in
    cond-true (is_phrase row.phrase) _ _ f.phrase
    ∙ (ap (λ o. row_with row.phrase o (codes_in (texts_of row.key))) freq
    ∙ (ap (row_with row.phrase (Some row.freq)) (key_read row.key f.codes)
    ∙ cond-true (eqb (length row.key) (length (chars row.phrase))) _ _ (eq-eqb _ _ (sym same))))
