-- Phrases, numbers and the texts of syllables have no space and no line feed.
use Rattle.std.proofs.Common.{◌≡◌, ℕ, zero, suc, ◌+◌, ◌*◌, ◌-◌, ◌/◌, ◌%◌, ◌^◌, ◌<◌, ◌≤◌, Bool, true, false, cond, leb, ltb, eqb, List, [], ◌∷◌, ◌++◌, refl, sym, ap, ◌∙◌, arith, rules}
use lib.Utf8.{encode, encodes}
use Rattle.std.specs.Prelude.{decimal}
use Rattle.std.specs.Char.{is_ascii_digit}
use Rattle.std.specs.List.{list_all, list_any, fold}
use Rattle.std.specs.Str.{chars}
use Rattle.std.proofs.lemmas.Bool.{and_parts, and_from, or_from, ne_eqb, leb-true, le-leb, lt-ltb}
use Rattle.std.proofs.lemmas.Fmt.{digits_decimal, digits_value-decimal, decimal_nonempty}
use Rattle.std.proofs.lemmas.List.Folds.{list_all-append}
use Rattle.std.proofs.lemmas.Str.{encodes-chars, IsUtf8-from_is_utf8}
use Rattle.std.proofs.lemmas.Str.Parse.{IsNumeralModel, numerals_by_fold}
use Rattle.chew_spec_syllable.specs.Phrase.{is_allowed, is_phrase}
use Rattle.chew_spec_syllable.specs.Syllable.{Parts, is_syllable}
use Rattle.chew_spec_syllable.specs.SyllableText.{initial_marks, medial_marks, final_marks, tone_marks, mark_text, text_of}
use Rattle.chew_spec_syllable.proofs.CodeParts.{in_range}
use Rattle.chew_spec_syllable.proofs.Marks.{Each, at}
use Rattle.chew_spec_text.specs.Digits.{digits_value, is_number}

-- each byte is '0' or above, so none is a space or a line feed
abbrev pub clean : List ℕ → Bool
clean bytes = list_all (λ byte. leb 48 byte) bytes

-- none is a byte below '0'
pub clean_without : (b : ℕ) (bytes : List ℕ) → b < 48 → clean bytes ≡ true → list_any (λ byte. eqb byte b) bytes ≡ false
clean_without b [] low h = refl
clean_without b (x ∷ bytes) low h =
    let both = and_parts _ _ h in
    or_from _ _ (ne_eqb x b (λ e. let high : 48 ≤ x = leb-true _ _ both.0 in omega arith)) (clean_without b bytes low both.1)

-- two such texts, joined
joined : (xs ys : List ℕ) → clean xs ≡ true → clean ys ≡ true → clean (xs ++ ys) ≡ true
joined xs ys h k = list_all-append (λ byte. leb 48 byte) xs ys ∙ and_from _ _ h k

-- a byte before others
before : (a : ℕ) (bytes : List ℕ) → 48 ≤ a → clean bytes ≡ true → clean (a ∷ bytes) ≡ true
before a bytes h k = and_from (leb 48 a) (clean bytes) (le-leb 48 a h) k

-- one of two such texts
either : (test : Bool) (xs ys : List ℕ) → clean xs ≡ true → clean ys ≡ true → clean (cond test xs ys) ≡ true
either true xs ys h k = h
either false xs ys h k = k

-- the bytes of a character above the space
clean_char : (c : ℕ) → 48 ≤ c → clean (encode c) ≡ true
unfolding encode
clean_char c h =
    let last = (128 + c % 64) ∷ [] in
    let last_two = (128 + c / 64 % 64) ∷ last in
    let last_three = (128 + c / 4096 % 64) ∷ last_two in
    let two = (192 + c / 64) ∷ last in
    let three = (224 + c / 4096) ∷ last_two in
    let four = (240 + c / 262144) ∷ last_three in
    let ends : clean last ≡ true = before (128 + c % 64) [] (omega arith) refl in
    let ends_two : clean last_two ≡ true = before (128 + c / 64 % 64) last (omega arith) ends in
    let ends_three : clean last_three ≡ true = before (128 + c / 4096 % 64) last_two (omega arith) ends_two in
    either (ltb c 128) (c ∷ []) (cond (ltb c 2048) two (cond (ltb c 65536) three four)) (before c [] h refl)
    (either (ltb c 2048) two (cond (ltb c 65536) three four) (before (192 + c / 64) last (omega arith) ends)
    (either (ltb c 65536) three four
    (before (224 + c / 4096) last_two (omega arith) ends_two)
    (before (240 + c / 262144) last_three (omega arith) ends_three)))

-- the bytes of allowed characters
clean_chars : (cs : List ℕ) → list_all is_allowed cs ≡ true → clean (encodes cs) ≡ true
clean_chars [] h = refl
clean_chars (c ∷ cs) h =
    let both = and_parts _ _ h in
    let high : 0xA1 ≤ c = leb-true _ _ (and_parts _ _ both.0).0 in
    joined (encode c) (encodes cs) (clean_char c (omega arith)) (clean_chars cs both.1)

-- a phrase is such a text
pub clean_phrase : (phrase : List ℕ) → is_phrase phrase ≡ true → clean phrase ≡ true
unfolding is_phrase
clean_phrase phrase h =
    let begins = and_parts _ _ (and_parts _ _ h).1 in
    let allowed = and_parts _ _ begins.1 in
    ap clean (sym (encodes-chars phrase (IsUtf8-from_is_utf8 phrase begins.0))) ∙ clean_chars (chars phrase) allowed.0

-- the digits of a number, and its value
abbrev digits_on : ℕ → List ℕ → ℕ
digits_on value digits = fold (λ n digit. n * 10 + (digit - 48)) value digits

-- the fold is the value of decimal digits
numerals : IsNumeralModel (λ digits. list_all is_ascii_digit digits ≡ true) (digits_on 0)
numerals = numerals_by_fold _ (search rules) digits_on (search rules)

-- a number is written in digits
pub decimal_digits : (n : ℕ) → n < 2 ^ 64 → list_all is_ascii_digit (decimal n) ≡ true
decimal_digits n h = digits_decimal numerals n h

-- which have its value
pub decimal_value : (n : ℕ) → n < 2 ^ 64 → digits_value (decimal n) ≡ n
decimal_value n h = digits_value-decimal numerals n h

-- and are one at least
pub decimal_number : (n : ℕ) → n < 2 ^ 64 → is_number (decimal n) ≡ true
decimal_number n h = and_from _ _ (lt-ltb _ _ (decimal_nonempty n h)) (decimal_digits n h)

-- digits are such a text
clean_digits : (digits : List ℕ) → list_all is_ascii_digit digits ≡ true → clean digits ≡ true
clean_digits [] h = refl
clean_digits (d ∷ digits) h = let both = and_parts _ _ h in and_from _ _ (and_parts _ _ both.0).0 (clean_digits digits both.1)

-- so is a number
pub clean_decimal : (n : ℕ) → n < 2 ^ 64 → clean (decimal n) ≡ true
clean_decimal n h = clean_digits (decimal n) (decimal_digits n h)

-- the marks
abbrev IsClean : List ℕ → ℕ → Type 0
IsClean marks n = clean (mark_text marks (suc n)) ≡ true

-- a mark, or none
clean_mark : (marks : List ℕ) (bound n : ℕ) → Each (IsClean marks) 0 bound → n ≤ bound → clean (mark_text marks n) ≡ true
clean_mark marks bound zero all h = refl
clean_mark marks bound (suc n) all h = at (IsClean marks) bound n all (omega arith)

-- each initial
initials_clean : Each (IsClean initial_marks) 0 21
unfolding encode
initials_clean = (refl, (refl, (refl, (refl, (refl, (refl, (refl, (refl, (refl, (refl, (refl, (refl, (refl, (refl, (refl, (refl, (refl, (refl, (refl, (refl, (refl, tt)))))))))))))))))))))

-- each medial
medials_clean : Each (IsClean medial_marks) 0 3
unfolding encode
medials_clean = (refl, (refl, (refl, tt)))

-- each final
finals_clean : Each (IsClean final_marks) 0 13
unfolding encode
finals_clean = (refl, (refl, (refl, (refl, (refl, (refl, (refl, (refl, (refl, (refl, (refl, (refl, (refl, tt)))))))))))))

-- each tone
tones_clean : Each (IsClean tone_marks) 0 4
unfolding encode
tones_clean = (refl, (refl, (refl, (refl, tt))))

-- the text of a syllable is such a text
pub clean_syllable : (p : Parts) → is_syllable p ≡ true → clean (text_of p) ≡ true
unfolding text_of
clean_syllable p h =
    let r = in_range p h in
    let i = mark_text initial_marks p.initial in
    let m = mark_text medial_marks p.medial in
    let f = mark_text final_marks p.final in
    let t = mark_text tone_marks p.tone in
    joined i (m ++ (f ++ t)) (clean_mark initial_marks 21 p.initial initials_clean r.initial)
    (joined m (f ++ t) (clean_mark medial_marks 3 p.medial medials_clean r.medial)
    (joined f t (clean_mark final_marks 13 p.final finals_clean r.final) (clean_mark tone_marks 4 p.tone tones_clean r.tone)))
