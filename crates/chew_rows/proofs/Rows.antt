-- The row of a phrase and the fields behind it.
use Rattle.std.proofs.Common.{◌≡◌, ℕ, true, false, ◌∷◌, [], eqb, cond, List, length, chars, Bool, Option, Some, None, Result, Ok, Err, refl, ap, sym, ◌∙◌}
use Rattle.std.specs.List.{before_first}
use Rattle.std.proofs.lemmas.Bool.{cond-true}
use Rattle.chew_spec_syllable.specs.Phrase.{is_phrase}
use Rattle.chew_spec_syllable.specs.Row.{Row}
use Rattle.chew_spec_text.specs.DictionaryText as spec
use Rattle.chew_spec_text.specs.DictionaryText.{codes_in, fields_in, freq_in, is_hash, row_in, row_with, with_fields, with_row}
use Rattle.chew_rows.specs.Fields.{codes_of_text, key_for}
use Rattle.chew_rows.specs.Lines.{taken}

-- a new row of these parts
abbrev pub row_of_parts : List ℕ → List ℕ → ℕ → Row
row_of_parts key phrase freq = record { key = key; phrase = phrase; freq = freq; time = 0 }

-- the row where there is a key
abbrev pub with_key : List ℕ → ℕ → Result (List ℕ) spec.RowCause → Result Row spec.RowCause
with_key phrase freq (Ok key) = Ok (row_of_parts key phrase freq)
with_key phrase freq (Err cause) = Err cause

-- what the codes give as a key, they give as a row
keyed : (phrase : List ℕ) (freq : ℕ) (codes : Option (List ℕ)) → row_with phrase (Some freq) codes ≡ with_key phrase freq (key_for (length (chars phrase)) codes)
keyed phrase freq None = refl
keyed phrase freq (Some codes) = by (eqb (length codes) (length (chars phrase)))
  where
    by : (b : Bool) → cond b (Ok (row_of_parts codes phrase freq)) (Err spec.Lengths) ≡ with_key phrase freq (cond b (Ok codes) (Err spec.Lengths))
    by true = refl
    by false = refl

-- the row of a phrase, a frequency and the fields behind it
pub row_keyed : (phrase digits behind : List ℕ) (fields : List (List ℕ)) (freq characters : ℕ) (outcome : Result (List ℕ) spec.RowCause)
    → is_phrase phrase ≡ true → fields ≡ digits ∷ fields_in behind → freq_in (digits ∷ []) ≡ Some freq → characters ≡ length (chars phrase) → key_for characters (codes_of_text behind) ≡ outcome
    → row_in phrase fields ≡ with_key phrase freq outcome
unfolding codes_of_text
row_keyed phrase digits behind fields freq characters outcome p e f same h =
    ap (row_in phrase) e ∙ (cond-true (is_phrase phrase) (row_with phrase (freq_in (digits ∷ [])) (codes_in (fields_in behind))) (Err spec.Phrase) p
    ∙ (ap (λ (found : Option ℕ). row_with phrase found (codes_in (fields_in behind))) f
    ∙ (keyed phrase freq (codes_in (fields_in behind)) ∙ ap (with_key phrase freq) (ap (λ (n : ℕ). key_for n (codes_in (fields_in behind))) (sym same) ∙ h))))

-- the row of a line
pub line_row : (rows : List Row) (line content phrase rest : List ℕ) (row : Row) → content ≡ before_first is_hash line
    → fields_in content ≡ phrase ∷ fields_in rest → row_in phrase (fields_in rest) ≡ Ok row → with_row rows (Ok row) ≡ taken rows line
line_row rows line content phrase rest row c e h =
    sym (ap (λ (l : List ℕ). with_fields rows (fields_in l)) (sym c) ∙ (ap (with_fields rows) e ∙ ap (with_row rows) h))
