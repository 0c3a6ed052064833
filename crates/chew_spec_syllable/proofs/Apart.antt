-- No pair stands twice exactly where no two places have rows of one pair.
use Rattle.std.proofs.Common.{◌≡◌, ℕ, zero, suc, Bool, true, false, List, [], ◌∷◌, Some, refl, sym, ap, ◌∙◌, inl, inr, arith}
use Rattle.std.specs.Prelude.{slice_get, bytes_eq}
use Rattle.std.specs.List.{list_any}
use Rattle.std.proofs.lemmas.Bool.{and_parts, and_from, or_parts, or_cases, not-true, not_from_false, false_from_ne_true, both_ways}
use Rattle.std.proofs.lemmas.Slice.Eq.{bytes_eq-Decides}
use Rattle.chew_spec_syllable.specs.Row.{Row, is_pair_of, no_pair_twice}

-- a row of a pair has its key and its phrase
of_pair : (key phrase : List ℕ) (row : Row) → is_pair_of key phrase row ≡ true → (row.key ≡ key) × (row.phrase ≡ phrase)
of_pair key phrase row h = let both = and_parts _ _ h in ((bytes_eq-Decides _ _).0 both.0, (bytes_eq-Decides _ _).0 both.1)

-- and a row that has them is one of the pair
is_of_pair : (key phrase : List ℕ) (row : Row) → row.key ≡ key → row.phrase ≡ phrase → is_pair_of key phrase row ≡ true
is_of_pair key phrase row k p = and_from (bytes_eq row.key key) (bytes_eq row.phrase phrase) ((bytes_eq-Decides _ _).1 k) ((bytes_eq-Decides _ _).1 p)

-- what an option has
same_row : (a b : Row) → Some a ≡ Some b → a ≡ b
same_row a b e = cc

-- where none of a list passes, the row at a place doesn't
none_at : (p : Row → Bool) (rows : List Row) (i : ℕ) (b : Row) → list_any p rows ≡ false → slice_get rows i ≡ Some b → p b ≡ false
none_at p [] i b h e = absurd cc
none_at p (row ∷ rows) zero b h e = ap p (sym (same_row row b e)) ∙ (or_parts _ _ h).0
none_at p (row ∷ rows) (suc i) b h e = none_at p rows i b (or_parts _ _ h).1 e

-- a row that passes, and its place
record Passes (p : Row → Bool) (rows : List Row) : Type 0 where
  place : ℕ
  row : Row
  there : slice_get rows place ≡ Some row
  passes : p row ≡ true

-- where some of a list passes, the row at some place does
some_at : (p : Row → Bool) (rows : List Row) → list_any p rows ≡ true → Passes p rows
some_at p [] h = absurd cc
some_at p (row ∷ rows) h = elim (or_cases (p row) (list_any p rows) h) [
  | inl here ↦ record { place = 0; row = row; there = refl; passes = here }
  | inr later ↦ let at = some_at p rows later in record { place = suc at.place; row = at.row; there = at.there; passes = at.passes }
]

-- the row at the head has another pair than each behind it
head_apart : (row : Row) (rows : List Row) (j : ℕ) (b : Row) → no_pair_twice (row ∷ rows) ≡ true → slice_get rows j ≡ Some b
    → b.key ≡ row.key → b.phrase ≡ row.phrase → ⊥
head_apart row rows j b h e k p =
    both_ways _ (none_at (is_pair_of row.key row.phrase) rows j b (not-true _ (and_parts _ _ h).0) e)
    (is_of_pair row.key row.phrase b k p)

-- two places with one pair are one
pub once_at : (rows : List Row) (i j : ℕ) (a b : Row) → no_pair_twice rows ≡ true → slice_get rows i ≡ Some a → slice_get rows j ≡ Some b
    → a.key ≡ b.key → a.phrase ≡ b.phrase → i ≡ j
once_at [] i j a b h e f k p = absurd cc
once_at (row ∷ rows) zero zero a b h e f k p = refl
once_at (row ∷ rows) zero (suc j) a b h e f k p =
    let same = same_row row a e in
    absurd (head_apart row rows j b h f (sym k ∙ ap (λ (r : Row). r.key) (sym same)) (sym p ∙ ap (λ (r : Row). r.phrase) (sym same)))
once_at (row ∷ rows) (suc i) zero a b h e f k p =
    let same = same_row row b f in
    absurd (head_apart row rows i a h e (k ∙ ap (λ (r : Row). r.key) (sym same)) (p ∙ ap (λ (r : Row). r.phrase) (sym same)))
once_at (row ∷ rows) (suc i) (suc j) a b h e f k p = ap suc (once_at rows i j a b (and_parts _ _ h).1 e f k p)

-- and where each two are, no pair stands twice
pub once_back : (rows : List Row) → ((i j : ℕ) (a b : Row) → slice_get rows i ≡ Some a → slice_get rows j ≡ Some b
    → a.key ≡ b.key → a.phrase ≡ b.phrase → i ≡ j) → no_pair_twice rows ≡ true
once_back [] h = refl
once_back (row ∷ rows) h =
    and_from _ _
    (not_from_false _ (false_from_ne_true _ (λ any.
    let at = some_at (is_pair_of row.key row.phrase) rows any in
    let pair = of_pair row.key row.phrase at.row at.passes in
    let e : 0 ≡ suc at.place = h 0 (suc at.place) row at.row refl at.there (sym pair.0) (sym pair.1) in
    omega arith)))
    (once_back rows (λ i j a b e f k p. let n : suc i ≡ suc j = h (suc i) (suc j) a b e f k p in omega arith))
