-- What the lines of a dictionary's text do to its rows.
use Rattle.std.proofs.Common.{◌≡◌, ℕ, ◌+◌, ◌<◌, ◌≤◌, Bool, true, false, cond, ◌&&◌, eqb, leb, ltb, List, [], ◌∷◌, ◌++◌, length, drop, Option, Some, None, Result, Ok, Err, refl, sym, ◌∙◌, subst, arith}
use lib.Utf8.{encodes}
use Rattle.std.specs.List.{list_all, list_any}
use Rattle.std.specs.Option.{option_and_then, option_map}
use Rattle.std.specs.Result.{result_ok}
use Rattle.std.specs.Str.{chars}
use Rattle.std.proofs.lemmas.Bool.{and_parts, and_from, both_ways, or_parts, or_from, eqb-true, eq-eqb, le-leb, leb-false, lt-ltb, ltb-true, not-true, not_from_false, false_from_ne_true, true≢false, cond_both}
use Rattle.std.proofs.lemmas.List.{length-append}
use Rattle.std.proofs.lemmas.List.Folds.{list_all-append, list_any-append}
use Rattle.chew_spec_dictionary.proofs.ImageOrder.{of_pair, is_of_pair}
use Rattle.chew_spec_syllable.specs.Phrase.{is_phrase}
use Rattle.chew_spec_syllable.specs.Row.{Row, greatest_freq, is_row, is_pair_of, no_pair_twice}
use Rattle.chew_spec_syllable.specs.Syllable.{Parts, code_of, is_code}
use Rattle.chew_spec_syllable.specs.SyllableText.{code_or_place, code_reading, syllable_reading}
use Rattle.chew_spec_syllable.proofs.CodeParts.{code_is}
use Rattle.chew_spec_syllable.proofs.Reading.{read_valid}
use Rattle.chew_spec_text.specs.Digits.{digits_value, is_number}
use Rattle.chew_spec_text.specs.DictionaryText.{RowCause, Size, Phrase, Lengths, Twice, Rows, codes_in, dictionary_rows, fields_of, freq_in, row_in, row_with, rows_limit, system_limit, with_fields, with_row}
use Rattle.chew_spec_text.specs.Lines.{lines_of}
use Rattle.chew_spec_text.proofs.EachLine.{keeps}
use Rattle.chew_spec_text.proofs.Found.{holds_in}
use Rattle.chew_spec_text.proofs.Limited.{of_lines}
use Rattle.chew_spec_text.proofs.Short.{phrase_bytes, phrase_few}

-- a row of a dictionary that was never learnt
abbrev pub is_new_row : Row → Bool
is_new_row row = is_row row && eqb row.time 0

-- what a frequency's field writes is at most the greatest
freq_range : (fields : List (List ℕ)) → holds_in (λ n. leb n greatest_freq) (freq_in fields) ≡ true
freq_range [] = refl
freq_range (field ∷ more) =
    cond_both (is_number field && leb (digits_value field) greatest_freq) (Some (digits_value field)) None
    (λ o. holds_in (λ n. leb n greatest_freq) o ≡ true) (λ e. (and_parts _ _ e).1) (λ _. refl)

-- what a syllable's field is read as is a code
code_range : (r : Result Parts ℕ) → ((p : Parts) → r ≡ Ok p → is_code (code_of p) ≡ true) → holds_in is_code (result_ok (code_or_place r)) ≡ true
code_range (Ok p) h = h p refl
code_range (Err place) h = refl

-- a code before others
key_more : (code : Option ℕ) (codes : Option (List ℕ)) → holds_in is_code code ≡ true → holds_in (list_all is_code) codes ≡ true
    → holds_in (list_all is_code) (option_and_then (λ c. option_map (λ cs. c ∷ cs) codes) code) ≡ true
key_more None codes h k = refl
key_more (Some code) None h k = refl
key_more (Some code) (Some codes) h k = and_from _ _ h k

-- the syllables' fields are read as codes
key_range : (fields : List (List ℕ)) → holds_in (list_all is_code) (codes_in fields) ≡ true
key_range [] = refl
key_range (field ∷ fields) =
    key_more (result_ok (code_reading field)) (codes_in fields)
    (code_range (syllable_reading field) (λ p e. code_is p (read_valid field p e))) (key_range fields)

-- characters of which there are bytes are some
some_chars : (cs : List ℕ) → 0 < length (encodes cs) → 1 ≤ length cs
some_chars [] h = absurd (omega arith)
some_chars (c ∷ cs) h = omega arith

-- a phrase has a character
phrase_some : (phrase : List ℕ) → is_phrase phrase ≡ true → 1 ≤ length (chars phrase)
unfolding is_phrase
phrase_some phrase h =
    let begins = and_parts (ltb 0 (length phrase)) _ h in
    let bytes : length (encodes (chars phrase)) ≡ length phrase = phrase_bytes phrase h in
    let some : 0 < length phrase = ltb-true _ _ begins.0 in
    some_chars (chars phrase) (omega arith)

-- a phrase, a frequency and as many codes make a row
made_row : (phrase key : List ℕ) (freq : ℕ) → is_phrase phrase ≡ true → leb freq greatest_freq ≡ true → list_all is_code key ≡ true
    → eqb (length key) (length (chars phrase)) ≡ true → is_new_row (record { key = key; phrase = phrase; freq = freq; time = 0 }) ≡ true
made_row phrase key freq p f k e =
    let same : length key ≡ length (chars phrase) = eqb-true _ _ e in
    let some : 1 ≤ length (chars phrase) = phrase_some phrase p in
    let few : length (chars phrase) ≤ 11 = phrase_few phrase p in
    let is_key = and_from _ _ k (and_from (leb 1 (length key)) (leb (length key) 11) (le-leb _ _ (omega arith)) (le-leb _ _ (omega arith))) in
    and_from _ _ (and_from _ _ (and_from _ _ is_key (and_from _ _ p (eq-eqb _ _ (sym same)))) f) refl

-- the row, if there is one, is new
abbrev is_new : Result Row RowCause → Bool
is_new (Ok row) = is_new_row row
is_new (Err cause) = true

-- what a phrase with a frequency and a key makes
with_new : (phrase : List ℕ) (freq : Option ℕ) (key : Option (List ℕ)) → is_phrase phrase ≡ true
    → holds_in (λ n. leb n greatest_freq) freq ≡ true → holds_in (list_all is_code) key ≡ true → is_new (row_with phrase freq key) ≡ true
with_new phrase None key p f k = refl
with_new phrase (Some freq) None p f k = refl
with_new phrase (Some freq) (Some key) p f k =
    cond_both (eqb (length key) (length (chars phrase))) (Ok (record { key = key; phrase = phrase; freq = freq; time = 0 })) (Err Lengths)
    (λ r. is_new r ≡ true) (made_row phrase key freq p f k) (λ _. refl)

-- what the fields of a line make
new_in : (phrase : List ℕ) (fields : List (List ℕ)) → is_new (row_in phrase fields) ≡ true
new_in phrase fields =
    cond_both (is_phrase phrase) (row_with phrase (freq_in fields) (codes_in (drop 1 fields))) (Err Phrase) (λ r. is_new r ≡ true)
    (λ p. with_new phrase (freq_in fields) (codes_in (drop 1 fields)) p (freq_range fields) (key_range (drop 1 fields))) (λ _. refl)

-- what the rows of a text are
pub record Proper (rows : List Row) : Type 0 where
  pub all : list_all is_new_row rows ≡ true
  pub once : no_pair_twice rows ≡ true
  pub few : length rows ≤ 250_000

-- a row that isn't of another's pair, the other way round
pub apart_back : (x y : Row) → is_pair_of x.key x.phrase y ≡ false → is_pair_of y.key y.phrase x ≡ false
apart_back x y f = false_from_ne_true _ (λ t. let same = of_pair y.key y.phrase x t in true≢false (sym (is_of_pair x.key x.phrase y (sym same.0) (sym same.1)) ∙ f))

-- a row of another pair behind rows
once_more : (rows : List Row) (row : Row) → no_pair_twice rows ≡ true → list_any (is_pair_of row.key row.phrase) rows ≡ false → no_pair_twice (rows ++ row ∷ []) ≡ true
once_more [] row h k = refl
once_more (first ∷ rows) row h k =
    let both = and_parts _ _ h in
    let apart = or_parts _ _ k in
    let none = list_any-append (is_pair_of first.key first.phrase) rows (row ∷ []) ∙ or_from _ _ (not-true _ both.0) (or_from _ _ (apart_back row first apart.0) refl) in
    and_from _ _ (not_from_false _ none) (once_more rows row both.1 apart.1)

-- a value behind two tests that fail
behind_tests : {A E : Type 0} (a b : Bool) (v t : A) (x y : E) → cond a (Err x) (cond b (Err y) (Ok v)) ≡ Ok t → (a ≡ false) × (b ≡ false) × (v ≡ t)
behind_tests true b v t x y h = absurd cc
behind_tests false true v t x y h = absurd cc
behind_tests false false v t x y h = let same : v ≡ t = cc in (refl, refl, same)

-- one row more
row_proper : (rows t : List Row) (r : Result Row RowCause) → is_new r ≡ true → with_row rows r ≡ Ok t → Proper rows → Proper t
row_proper rows t (Err cause) n h p = absurd cc
row_proper rows t (Ok row) n h p =
    let b = behind_tests (list_any (is_pair_of row.key row.phrase) rows) (leb rows_limit (length rows)) (rows ++ row ∷ []) t Twice Rows h in
    let low : length rows < 250_000 = leb-false _ _ b.1 in
    let more : length (rows ++ row ∷ []) ≡ length rows + 1 = length-append rows (row ∷ []) in
    subst Proper b.2 (record {
      all = list_all-append is_new_row rows (row ∷ []) ∙ and_from _ _ p.all (and_from _ _ n refl);
      once = once_more rows row p.once b.0;
      few = omega arith;
    })

-- one line more
fields_proper : (rows t : List Row) (fields : List (List ℕ)) → with_fields rows fields ≡ Ok t → Proper rows → Proper t
fields_proper rows t [] h p = let same : rows ≡ t = cc in subst Proper same p
fields_proper rows t (phrase ∷ fields) h p = row_proper rows t (row_in phrase fields) (new_in phrase fields) h p

-- what one line more makes of rows
abbrev pub taken : List Row → List ℕ → Result (List Row) RowCause
taken rows line = with_fields rows (fields_of line)

-- the rows of a text are such rows
pub rows_proper : (text : List ℕ) (rows : List Row) → dictionary_rows text ≡ Ok rows → Proper rows
unfolding dictionary_rows
rows_proper text rows h =
    keeps Proper taken (λ u t line e. fields_proper u t (fields_of line) e) 1 [] rows (lines_of text)
    (of_lines (leb (length text) system_limit) Size taken [] rows text h) (record { all = refl; once = refl; few = omega arith })

-- a line without fields changes nothing
no_field : (rows : List Row) (fields : List (List ℕ)) → ltb 0 (length fields) ≡ false → with_fields rows fields ≡ Ok rows
no_field rows [] h = refl
no_field rows (field ∷ fields) h = absurd (both_ways _ h (lt-ltb _ _ (omega arith)))

-- so it is with such lines
pub nothing_said : (rows : List Row) (line : List ℕ) → ltb 0 (length (fields_of line)) ≡ false → taken rows line ≡ Ok rows
nothing_said rows line h = no_field rows (fields_of line) h
