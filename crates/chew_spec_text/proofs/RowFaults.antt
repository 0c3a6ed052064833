-- No line of a dictionary's text is refused for its size.
use Rattle.std.proofs.Common.{◌≡◌, ℕ, Bool, true, false, cond, not, eqb, leb, List, [], ◌∷◌, ◌++◌, length, drop, Option, Some, None, Result, Ok, Err, refl, sym, ap, ◌∙◌}
use Rattle.std.specs.List.{list_any}
use Rattle.std.specs.Str.{chars}
use Rattle.std.proofs.lemmas.Bool.{both_ways, not-true, cond_both}
use Rattle.chew_spec_syllable.specs.Phrase.{is_phrase}
use Rattle.chew_spec_syllable.specs.Row.{Row, is_pair_of}
use Rattle.chew_spec_text.specs.DictionaryText.{RowCause, Size, Phrase, Lengths, Twice, Rows, codes_in, fields_of, freq_in, row_in, row_with, rows_limit, with_fields, with_row}
use Rattle.chew_spec_text.proofs.Rows.{taken}

-- the size isn't told of a line
abbrev is_size : RowCause → Bool
is_size Size = true
is_size _ = false

-- the cause, if there is one, isn't the size
abbrev is_of_line : {A : Type 0} → Result A RowCause → Bool
is_of_line (Ok value) = true
is_of_line (Err cause) = not (is_size cause)

-- of what a phrase with a frequency and a key makes
with_told : (phrase : List ℕ) (freq : Option ℕ) (key : Option (List ℕ)) → is_of_line (row_with phrase freq key) ≡ true
with_told phrase None key = refl
with_told phrase (Some freq) None = refl
with_told phrase (Some freq) (Some key) =
    cond_both (eqb (length key) (length (chars phrase))) (Ok (record { key = key; phrase = phrase; freq = freq; time = 0 })) (Err Lengths)
    (λ r. is_of_line r ≡ true) (λ _. refl) (λ _. refl)

-- of what it makes of rows
row_told : (rows : List Row) (r : Result Row RowCause) → is_of_line r ≡ true → is_of_line (with_row rows r) ≡ true
row_told rows (Err cause) h = h
row_told rows (Ok row) h =
    let few = cond (leb rows_limit (length rows)) (Err Rows) (Ok (rows ++ row ∷ [])) in
    cond_both (list_any (is_pair_of row.key row.phrase) rows) (Err Twice) few (λ r. is_of_line r ≡ true) (λ _. refl)
    (λ _. cond_both (leb rows_limit (length rows)) (Err Rows) (Ok (rows ++ row ∷ [])) (λ r. is_of_line r ≡ true) (λ _. refl) (λ _. refl))

-- of what fields make
fields_told : (rows : List Row) (fields : List (List ℕ)) → is_of_line (with_fields rows fields) ≡ true
fields_told rows [] = refl
fields_told rows (phrase ∷ fields) =
    row_told rows (row_in phrase fields)
    (cond_both (is_phrase phrase) (row_with phrase (freq_in fields) (codes_in (drop 1 fields))) (Err Phrase) (λ r. is_of_line r ≡ true)
    (λ _. with_told phrase (freq_in fields) (codes_in (drop 1 fields))) (λ _. refl))

-- no line is refused for the size
pub never_size : (rows : List Row) (line : List ℕ) (cause : RowCause) → taken rows line ≡ Err cause → cause ≡ Size → ⊥
never_size rows line cause h e =
    let no : not (is_size cause) ≡ true = sym (ap is_of_line h) ∙ fields_told rows (fields_of line) in
    both_ways (is_size cause) (not-true _ no) (ap is_size e)
