-- The rows of a key by their places among all rows, where they stand together.
use Rattle.std.proofs.Common.{◌≡◌, ℕ, zero, suc, ◌+◌, ◌-◌, ◌<◌, true, List, [], ◌∷◌, length, take, drop, refl, ap, sym, ◌∙◌, Some, Contains, arith}
use Rattle.std.specs.List.{list_all, slice_get}
use Rattle.std.proofs.lemmas.Option.{none-some, same_Some}
use Rattle.std.proofs.lemmas.List.{length-take}
use Rattle.std.proofs.lemmas.List.Sorted.{Contains-permutation, IsPermutation-sym}
use Rattle.chew_spec_syllable.specs.Row.{Row, is_row}
use Rattle.chew_spec_dictionary.specs.System.{phrase_cmp, rows_of, rows_under}
use Rattle.chew_spec_dictionary.proofs.Found.{each_of_all}
use Rattle.chew_spec_dictionary.proofs.Order.{order_permutes}
use Rattle.chew_spec_dictionary.proofs.Rows.{under_key}

-- an element of the front of what follows a place
get_drop : {X : Type 0} (xs : List X) (start i : ℕ) → slice_get (drop start xs) i ≡ slice_get xs (start + i)
get_drop xs zero i = ap (slice_get xs) (let e : i ≡ zero + i = omega arith in e)
get_drop [] (suc start) i = refl
get_drop (x ∷ xs) (suc start) i = get_drop xs start i ∙ ap (slice_get (x ∷ xs)) (let e : suc (start + i) ≡ suc start + i = omega arith in e)

get_take : {X : Type 0} (xs : List X) (n i : ℕ) → i < n → slice_get (take n xs) i ≡ slice_get xs i
get_take xs zero i l = absurd (omega arith)
get_take [] (suc n) i l = refl
get_take (x ∷ xs) (suc n) zero l = refl
get_take (x ∷ xs) (suc n) (suc i) l = get_take xs n i (omega arith)

-- an element that is got is contained
got : {X : Type 0} (xs : List X) (i : ℕ) (x : X) → slice_get xs i ≡ Some x → Contains xs x
got [] i x e = absurd (none-some x e)
got (y ∷ xs) zero x e = (0, omega arith, same_Some y x e)
got (y ∷ xs) (suc i) x e = let later = got xs i x e in (suc later.0, omega (arith, later.1), later.2)

-- a row of a key, by its place among all
module _ (rows : List Row) (key : List ℕ) (start end i : ℕ) (row : Row)
    (together : take (end - start) (drop start rows) ≡ rows_of rows key) (inside : i < length (rows_of rows key)) (there : slice_get rows (start + i) ≡ Some row) where
  pub its_row : slice_get (rows_of rows key) i ≡ Some row
  its_row =
      ap (λ (l : List Row). slice_get l i) (sym together)
      ∙ get_take (drop start rows) (end - start) i (omega (arith, inside, ap length together, length-take (end - start) (drop start rows)))
      ∙ get_drop rows start i ∙ there

  its_under : Contains rows row × (row.key ≡ key)
  its_under = under_key rows key row (Contains-permutation (rows_of rows key) (rows_under rows key) row (IsPermutation-sym (rows_under rows key) (rows_of rows key) (order_permutes phrase_cmp (rows_under rows key))) (got (rows_of rows key) i row its_row))

  pub its_row_key : row.key ≡ key
  its_row_key = its_under.1

  pub its_row_valid : list_all is_row rows ≡ true → is_row row ≡ true
  its_row_valid a = let among = its_under.0 in ap is_row (sym among.2) ∙ each_of_all is_row rows among.0 row a among.1
