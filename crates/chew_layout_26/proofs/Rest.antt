-- The numbers of a letter, from a place of the column on.
use Rattle.std.proofs.Common.{◌≡◌, ℕ, suc, ◌+◌, ◌<◌, true, false, cond, Some, None, List, [], ◌∷◌, ◌++◌, length, append_assoc, append-nil, refl, sym, ap, ◌∙◌, arith}
use Rattle.std.specs.Prelude.{◌==◌, ◌-◌, slice_index}
use Rattle.std.specs.List.{filter, last_or, range_with_len, slice_get}
use Rattle.std.proofs.lemmas.Bool.{cond-true, cond-false}
use Rattle.chew_spec_layout.specs.Letters.{numbers_of}

-- the letter's numbers from this place on
abbrev pub rest : List ℕ → ℕ → ℕ → List ℕ
rest column letter place = filter (λ number. slice_index column (number - 1) == letter) (range_with_len (place + 1) (length column - place))

-- the place's own number stands first, where its letter is the one
next : (column : List ℕ) (letter place : ℕ) → place < length column
    → rest column letter place ≡ cond (slice_index column place == letter) ((place + 1) ∷ rest column letter (place + 1)) (rest column letter (place + 1))
next column letter place h =
    let e : length column - place ≡ suc (length column - (place + 1)) = omega arith in
    let f : place + 1 - 1 ≡ place = omega arith in
    rw e (rw f refl)

-- with the place's number taken, the numbers behind it are left
pub with_number : (column : List ℕ) (letter place : ℕ) (taken : List ℕ) → place < length column → (slice_index column place == letter) ≡ true
    → taken ++ rest column letter place ≡ numbers_of column letter → (taken ++ (place + 1) ∷ []) ++ rest column letter (place + 1) ≡ numbers_of column letter
with_number column letter place taken h is e =
    append_assoc taken ((place + 1) ∷ []) (rest column letter (place + 1)) ∙ (ap (λ xs. taken ++ xs) (sym (next column letter place h ∙ cond-true _ _ _ is)) ∙ e)

-- so are they where its letter is another
pub without_number : (column : List ℕ) (letter place : ℕ) (taken : List ℕ) → place < length column → (slice_index column place == letter) ≡ false
    → taken ++ rest column letter place ≡ numbers_of column letter → taken ++ rest column letter (place + 1) ≡ numbers_of column letter
without_number column letter place taken h not e = ap (λ xs. taken ++ xs) (sym (next column letter place h ∙ cond-false _ _ _ not)) ∙ e

-- at the end of the column none are left
pub at_end : (column : List ℕ) (letter place : ℕ) (taken : List ℕ) → place ≡ length column → taken ++ rest column letter place ≡ numbers_of column letter → taken ≡ numbers_of column letter
at_end column letter place taken h e =
    let none : length column - place ≡ 0 = omega arith in
    sym (append-nil taken) ∙ rw none at e

-- the last behind an item
last_behind : (x : ℕ) (xs : List ℕ) → last_or (Some x) xs ≡ slice_get (x ∷ xs) (length xs)
last_behind x [] = refl
last_behind x (y ∷ ys) = last_behind y ys

-- the last of a list stands at the place below its length
pub last_place : (xs : List ℕ) → last_or None xs ≡ slice_get xs (length xs - 1)
last_place [] = refl
last_place (x ∷ xs) = let e : suc (length xs) - 1 ≡ length xs = omega arith in rw e (last_behind x xs)
