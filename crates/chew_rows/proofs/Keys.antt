-- The syllables of fields, read one after another.
use Rattle.std.proofs.Common.{◌≡◌, ℕ, ◌≤◌, ◌≢◌, eqb, List, [], ◌∷◌, ◌++◌, length, Option, Some, None, Result, Ok, Err, refl, ap, sym, ◌∙◌, append_assoc, append-nil, length-append, arith}
use Rattle.std.specs.Option.{MatchOption, is_some, option_map, option_and_then}
use Rattle.std.specs.Result.{result_ok}
use Rattle.std.proofs.lemmas.Bool.{cond-true, cond-false, eq-eqb, ne_eqb}
use Rattle.chew_spec_syllable.specs.SyllableText.{code_reading}
use Rattle.chew_spec_text.specs.DictionaryText as spec
use Rattle.chew_spec_text.specs.DictionaryText.{codes_in, fields_in}
use Rattle.chew_rows.specs.Fields.{codes_of_text, key_for}

-- the first field is a syllable
pub one_code : (text behind field : List ℕ) (code : ℕ) → fields_in text ≡ field ∷ fields_in behind → code_reading field ≡ Ok code → codes_of_text text ≡ option_map (λ codes. code ∷ codes) (codes_of_text behind)
unfolding codes_of_text
one_code text behind field code e h = ap codes_in e ∙ by (code_reading field) h
  where
    by : (read : Result ℕ ℕ) → read ≡ Ok code → option_and_then (λ (y : ℕ). option_map (λ ys. y ∷ ys) (codes_in (fields_in behind))) (result_ok read) ≡ option_map (λ codes. code ∷ codes) (codes_in (fields_in behind))
    by (Ok c) h = ap (λ (y : ℕ). option_map (λ ys. y ∷ ys) (codes_in (fields_in behind))) cc
    by (Err place) h = absurd cc

-- so the rest tells whether all are
pub some_code : (text behind field : List ℕ) (code : ℕ) → fields_in text ≡ field ∷ fields_in behind → code_reading field ≡ Ok code → is_some (codes_of_text text) ≡ is_some (codes_of_text behind)
some_code text behind field code e h = ap is_some (one_code text behind field code e h) ∙ by (codes_of_text behind)
  where
    by : (codes : Option (List ℕ)) → is_some (option_map (λ codes. code ∷ codes) codes) ≡ is_some codes
    by None = refl
    by (Some codes) = refl

-- it is none
pub no_code : (text behind field : List ℕ) (place : ℕ) → fields_in text ≡ field ∷ fields_in behind → code_reading field ≡ Err place → codes_of_text text ≡ None
unfolding codes_of_text
no_code text behind field place e h = ap codes_in e ∙ by (code_reading field) h
  where
    by : (read : Result ℕ ℕ) → read ≡ Err place → option_and_then (λ (y : ℕ). option_map (λ ys. y ∷ ys) (codes_in (fields_in behind))) (result_ok read) ≡ None
    by (Ok c) h = absurd cc
    by (Err place) h = refl

-- there is no field
pub no_codes : (text : List ℕ) → fields_in text ≡ [] → codes_of_text text ≡ Some []
unfolding codes_of_text
no_codes text e = ap codes_in e

-- one more is read
pub one_more : (front pushed : List ℕ) (code : ℕ) (all here next : Option (List ℕ)) → pushed ≡ front ++ code ∷ [] → all ≡ option_map (λ codes. front ++ codes) here → here ≡ option_map (λ codes. code ∷ codes) next → all ≡ option_map (λ codes. pushed ++ codes) next
one_more front pushed code all here next p e h = e ∙ (ap (option_map (λ codes. front ++ codes)) h ∙ (by next ∙ ap (λ (list : List ℕ). option_map (λ codes. list ++ codes) next) (sym p)))
  where
    by : (next : Option (List ℕ)) → option_map (λ codes. front ++ codes) (option_map (λ codes. code ∷ codes) next) ≡ option_map (λ codes. (front ++ code ∷ []) ++ codes) next
    by None = refl
    by (Some codes) = ap Some (sym (append_assoc front (code ∷ []) codes))

-- the key of a phrase, where a field is no syllable
pub key_bad : (characters : ℕ) (front : List ℕ) (all here : Option (List ℕ)) → all ≡ option_map (λ codes. front ++ codes) here → here ≡ None → key_for characters all ≡ Err spec.Syllable
key_bad characters front all here e h = ap (key_for characters) (e ∙ ap (option_map (λ codes. front ++ codes)) h)

-- where there are too many syllables, and maybe a field that is none
pub key_beyond : (characters : ℕ) (front : List ℕ) (code : ℕ) (all here next : Option (List ℕ)) (cause : spec.RowCause) → characters ≤ 11 → 11 ≤ length front
    → all ≡ option_map (λ codes. front ++ codes) here → here ≡ option_map (λ codes. code ∷ codes) next → MatchOption next (cause ≡ spec.Syllable) (λ _. cause ≡ spec.Lengths) → key_for characters all ≡ Err cause
key_beyond characters front code all here next cause few many e h told = ap (key_for characters) (e ∙ ap (option_map (λ codes. front ++ codes)) h) ∙ by next told
  where
    by : (next : Option (List ℕ)) → MatchOption next (cause ≡ spec.Syllable) (λ _. cause ≡ spec.Lengths) → key_for characters (option_map (λ codes. front ++ codes) (option_map (λ codes. code ∷ codes) next)) ≡ Err cause
    by None told = ap Err (sym told)
    by (Some codes) told =
        let long : length (front ++ (code ∷ codes)) ≢ characters = λ same. absurd (omega (arith, length-append front (code ∷ codes))) in
        cond-false (eqb (length (front ++ (code ∷ codes))) characters) (Ok (front ++ (code ∷ codes))) (Err spec.Lengths) (ne_eqb (length (front ++ (code ∷ codes))) characters long) ∙ ap Err (sym told)

-- all syllables are read
pub all_codes : (front : List ℕ) (all here : Option (List ℕ)) → all ≡ option_map (λ codes. front ++ codes) here → here ≡ Some [] → all ≡ Some front
all_codes front all here e h = e ∙ ap (option_map (λ codes. front ++ codes)) h ∙ ap Some (append-nil front)

-- and are not as many as the characters
pub key_differs : (characters : ℕ) (codes : List ℕ) (all : Option (List ℕ)) → all ≡ Some codes → length codes ≢ characters → key_for characters all ≡ Err spec.Lengths
key_differs characters codes all e other = ap (key_for characters) e ∙ cond-false (eqb (length codes) characters) (Ok codes) (Err spec.Lengths) (ne_eqb (length codes) characters other)

-- or are
pub key_is : (characters : ℕ) (codes : List ℕ) (all : Option (List ℕ)) → all ≡ Some codes → length codes ≡ characters → key_for characters all ≡ Ok codes
key_is characters codes all e same = ap (key_for characters) e ∙ cond-true (eqb (length codes) characters) (Ok codes) (Err spec.Lengths) (eq-eqb (length codes) characters same)
