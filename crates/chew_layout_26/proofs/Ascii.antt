-- The letters of both layouts are ASCII.
use Rattle.std.proofs.Common.{◌≡◌, ℕ, zero, suc, ◌<◌, true, ◌||◌, eqb, List, [], ◌∷◌, ⊎_elim, refl, sym, ◌∙◌, arith}
use Rattle.std.specs.Prelude.{nat_lt}
use Rattle.std.specs.Str.{IsAscii, IsUtf8}
use Rattle.std.specs.List.{list_all, list_any}
use Rattle.std.proofs.lemmas.Bool.{and_parts, or_cases, eqb-true, ltb-true}
use Rattle.std.proofs.lemmas.Str.{IsUtf8-from_ascii}
use Rattle.chew_spec_layout.specs.Table.{Columns, has_key}
use Rattle.chew_spec_layout.specs.Letters.{Letters, Hsu, Et26, letter_columns, is_letter, are_held_letters}
use Rattle.chew_spec_layout.proofs.Columns.{has_key_any}

-- a key of a column of ASCII is ASCII
among : (column : List ℕ) (key : ℕ) → list_all (λ k. nat_lt k 128) column ≡ true → list_any (λ k. eqb k key) column ≡ true → key < 128
among [] key all e = absurd cc
among (k ∷ column) key all e =
    let a = and_parts _ _ all in
    ⊎_elim
    (λ same. let here : k < 128 = ltb-true _ _ a.0 in let is : k ≡ key = eqb-true _ _ same in omega arith)
    (λ later. among column key a.1 later)
    (or_cases _ _ e)

-- the same by `has_key`
in_column : (column : List ℕ) (key : ℕ) → list_all (λ k. nat_lt k 128) column ≡ true → has_key column key ≡ true → key < 128
in_column column key all e = among column key all (sym (has_key_any column key) ∙ e)

-- a letter of columns of ASCII is ASCII
in_columns : (columns : Columns) (key : ℕ) → list_all (λ k. nat_lt k 128) columns.initials ≡ true → list_all (λ k. nat_lt k 128) columns.medials ≡ true
    → list_all (λ k. nat_lt k 128) columns.finals ≡ true → is_letter columns key ≡ true → key < 128
in_columns columns key i m f e =
    ⊎_elim (in_column columns.initials key i) (λ g. ⊎_elim (in_column columns.medials key m) (in_column columns.finals key f) (or_cases _ (has_key columns.finals key) g))
    (or_cases _ (has_key columns.medials key || has_key columns.finals key) e)

-- so is a letter of both layouts
letter_ascii : (letters : Letters) (key : ℕ) → is_letter (letter_columns letters) key ≡ true → key < 128
letter_ascii Hsu key = in_columns (letter_columns Hsu) key refl refl refl
letter_ascii Et26 key = in_columns (letter_columns Et26) key refl refl refl

-- so are several
letters_ascii : (letters : Letters) (held : List ℕ) → list_all (is_letter (letter_columns letters)) held ≡ true → IsAscii held
letters_ascii letters [] e i = omega arith
letters_ascii letters (key ∷ held) e zero = letter_ascii letters key (and_parts _ _ e).0
letters_ascii letters (key ∷ held) e (suc i) = letters_ascii letters held (and_parts _ _ e).1 i

-- what is held is a text
pub held_utf8 : (letters : Letters) (held : List ℕ) → are_held_letters (letter_columns letters) held ≡ true → IsUtf8 held
held_utf8 letters held e = IsUtf8-from_ascii held (letters_ascii letters held (and_parts _ _ e).1)
