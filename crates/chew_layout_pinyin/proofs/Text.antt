-- What the text of found marks is.
use Rattle.std.proofs.Common.{◌≡◌, ℕ, zero, suc, ◌<◌, ◌≤◌, true, List, [], ◌∷◌, ◌++◌, get_or, length, Option, Some, None, Result, Ok, refl, sym, ap, ◌∙◌, subst, arith, length-append}
use Rattle.std.specs.Prelude.{nat_le}
use Rattle.std.specs.List.{list_all}
use Rattle.std.specs.Str.{IsUtf8}
use Rattle.std.proofs.lemmas.Bool.{and_parts, leb-true}
use Rattle.std.proofs.lemmas.Str.{IsUtf8-from_ascii}
use Rattle.std.specs.Option.{IfSome, option_map, SomeIff}
use Rattle.chew_spec_syllable.specs.Syllable.{Parts, is_syllable, code_of, parts_of}
use Rattle.chew_spec_syllable.specs.SyllableText.{front_parts, text_of, code_or_place, code_reading, syllable_reading}
use Rattle.chew_spec_syllable.proofs.CodeParts.{InRange, in_range, parts_back}
use Rattle.chew_spec_syllable.proofs.Reading.{text_read}
use Rattle.chew_syllable.proofs.Marks.{initial_within, medial_within, final_within}
use Rattle.chew_spec_layout.specs.Spelling.{Spelling}
use Rattle.chew_spec_layout.specs.Spellings.{spelling_of}
use Rattle.chew_spec_layout.specs.Pinyin.{is_held_spelling, is_pinyin_letter}
use Rattle.chew_spec_layout.specs.SpellingKeys.{IsSpelled}
use Rattle.chew_spec_layout.proofs.Spelling.{is_spelled, toned}

-- the text is a spelling's marks, and is read as the syllable of its parts
pub record IsMarks (o : Option Spelling) (text : List ℕ) : Type 0 where
  pub short : length text ≤ 9
  pub syllable : is_syllable (front_parts text) ≡ true
  pub reading : code_reading text ≡ Ok (code_of (front_parts text))
  pub toned : (tone : ℕ) → option_map (λ s. code_of (record (front_parts s.marks) { tone = tone })) o ≡ Some (code_of (record (front_parts text) { tone = tone }))

-- without a tone a text is of three marks at most
text_short : (p : Parts) → InRange p → p.tone ≡ 0 → length (text_of p) ≤ 9
unfolding text_of
text_short p r e =
    let i = initial_within p.initial r.initial in
    let m = medial_within p.medial r.medial in
    let f = final_within p.final r.final in
    rw e (simp length-append (omega arith))

-- a spelling's marks are such a text
of_spelling : (letters : List ℕ) (s : Spelling) → IsSpelled letters s → IsMarks (Some s) s.marks
of_spelling letters s h = record {
  short = (let n = text_short (front_parts s.marks) (in_range (front_parts s.marks) h.syllable) h.no_tone in rw h.text at n);
  syllable = h.syllable;
  reading = ap code_or_place (ap syllable_reading (sym h.text) ∙ text_read (front_parts s.marks) h.syllable);
  toned = λ tone. refl;
}

-- so is what is found
found_marks : (letters text : List ℕ) (o : Option Spelling) → IfSome o (IsSpelled letters) → Some text ≡ option_map (λ s. s.marks) o → IsMarks o text
found_marks letters text None h e = absurd cc
found_marks letters text (Some s) h e =
    let same : s.marks ≡ text = cc in
    subst (IsMarks (Some s)) same (of_spelling letters s h)

-- the same of letters
pub marks_found : (letters text : List ℕ) → Some text ≡ option_map (λ s. s.marks) (spelling_of letters) → IsMarks (spelling_of letters) text
marks_found letters text e = found_marks letters text (spelling_of letters) (is_spelled letters) e

-- what is there exactly where P holds is there
there : (o : Option ℕ) (P : Type 0) (value : ℕ) → SomeIff o P value → P → o ≡ Some value
there None P value h p = absurd (h p)
there (Some x) P value h p = ap (λ (n : ℕ). Some n) h.1

-- one result has one value
same_ok : (r : Result ℕ ℕ) (a b : ℕ) → r ≡ Ok a → r ≡ Ok b → a ≡ b
same_ok r a b e f = cc

-- the syllable that is read from the text, with another tone
pub with_tone : (o : Option Spelling) (text : List ℕ) (tone : ℕ) (p : Parts) (code : ℕ) → IsMarks o text → tone ≤ 4 → code_reading text ≡ Ok code → p ≡ parts_of code
    → (r : Option ℕ) → SomeIff r (is_syllable (record p { tone = tone }) ≡ true) (code_of (record p { tone = tone }))
    → r ≡ option_map (λ s. code_of (record (front_parts s.marks) { tone = tone })) o
with_tone o text tone p code m t e is r h =
    let same : p ≡ front_parts text = is ∙ (ap parts_of (same_ok _ _ _ e m.reading) ∙ parts_back (front_parts text) m.syllable) in
    let valid : is_syllable (record p { tone = tone }) ≡ true = toned p tone (ap is_syllable same ∙ m.syllable) t in
    there r _ _ h valid ∙ (ap (λ (q : Parts). Some (code_of (record q { tone = tone }))) same ∙ sym (m.toned tone))

-- two texts, pushed onto an empty one, as bytes
pub pushed : (first second : List ℕ) {a b c d e : List ℕ} → a ≡ [] → b ≡ a ++ first → c ≡ b ++ second → d ≡ c → e ≡ d → first ++ second ≡ e
pushed first second h i j k l = cc

-- each letter is ASCII
letter_at : (i : ℕ) (held : List ℕ) → list_all is_pinyin_letter held ≡ true → get_or held i 0 < 128
letter_at i [] h = omega arith
letter_at zero (key ∷ held) h =
    let both = and_parts (is_pinyin_letter key) (list_all is_pinyin_letter held) h in
    let low : key ≤ 122 = leb-true _ _ (and_parts (nat_le 97 key) (nat_le key 122) both.0).1 in
    omega arith
letter_at (suc i) (key ∷ held) h = letter_at i held (and_parts (is_pinyin_letter key) (list_all is_pinyin_letter held) h).1

-- held letters are text
pub held_text : (held : List ℕ) → is_held_spelling held ≡ true → IsUtf8 held
held_text held h =
    IsUtf8-from_ascii held (λ i. letter_at i held (and_parts (nat_le (length held) 6) (list_all is_pinyin_letter held) h).1)
