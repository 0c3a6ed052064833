-- The pieces of the intervals, by a choice or a row more.
use Rattle.std.proofs.Common.{◌≡◌, ℕ, Bool, true, false, cond, ◌&&◌, List, [], ◌∷◌, ◌++◌, find, Option, Some, None, option_map, sym, refl, ap, ap₂, ◌∙◌, true≢false}
use Rattle.std.specs.Prelude.{nat_le}
use Rattle.std.specs.Option.{option_map_or}
use Rattle.std.proofs.lemmas.Bool.{false≢true}
use Rattle.std.proofs.lemmas.Option.{none-some}
use Rattle.chew_spec_dictionary.specs.Call.{Hit}
use Rattle.chew_spec_dictionary.specs.Look.{Interval}
use Rattle.chew_spec_phrasing.specs.CombinedRows.{is_hit_at}
use Rattle.chew_spec_phrasing.specs.Usable.{Choice, Piece, is_exactly, is_unbroken, keeps_choices, piece_at, piece_of_choice, piece_of_hit}
use Rattle.chew_spec_phrasing.proofs.Usable.{BothTrue-from}

-- the first that passes, with one element more
find_kept : {X : Type 0} (p : X → Bool) (xs : List X) (x y : X) → find p xs ≡ Some y → find p (xs ++ (x ∷ [])) ≡ Some y
find_kept p [] x y e = absurd (none-some y e)
find_kept p (z ∷ xs) x y e = by_test (p z) (find_kept p xs x y) e
  where
    by_test : (b : Bool) → (find p xs ≡ Some y → find p (xs ++ (x ∷ [])) ≡ Some y) → cond b (Some z) (find p xs) ≡ Some y → cond b (Some z) (find p (xs ++ (x ∷ []))) ≡ Some y
    by_test true rest e = e
    by_test false rest e = rest e

find_new : {X : Type 0} (p : X → Bool) (xs : List X) (x : X) → find p xs ≡ None → p x ≡ true → find p (xs ++ (x ∷ [])) ≡ Some x
find_new p [] x e f = ap (λ b. cond b (Some x) None) f
find_new p (z ∷ xs) x e f = by_test (p z) (λ g. find_new p xs x g f) e
  where
    by_test : (b : Bool) → (find p xs ≡ None → find p (xs ++ (x ∷ [])) ≡ Some x) → cond b (Some z) (find p xs) ≡ None → cond b (Some z) (find p (xs ++ (x ∷ []))) ≡ Some x
    by_test true rest e = absurd (none-some z (sym e))
    by_test false rest e = rest e

find_other : {X : Type 0} (p : X → Bool) (xs : List X) (x : X) → p x ≡ false → find p (xs ++ (x ∷ [])) ≡ find p xs
find_other p [] x f = ap (λ b. cond b (Some x) None) f
find_other p (z ∷ xs) x f = ap (cond (p z) (Some z)) (find_other p xs x f)

module _ (breaks : List ℕ) (before : List Choice) (choice : Choice) (at : Interval) where
  pub choice_kept : (piece : Piece) → piece_at [] breaks before at ≡ Some piece → piece_at [] breaks (before ++ (choice ∷ [])) at ≡ Some piece
  unfolding piece_at
  choice_kept piece e = by_found (find (is_exactly at) before) refl e
    where
      no_row : (b : Bool) → cond b (option_map piece_of_hit None) None ≡ Some piece → ⊥
      no_row true e = none-some piece e
      no_row false e = none-some piece e

      by_found : (o : Option Choice) → find (is_exactly at) before ≡ o → option_map_or (λ c. Some (piece_of_choice c)) o (cond (nat_le at.len 11 && is_unbroken breaks at) (option_map piece_of_hit None) None) ≡ Some piece
          → piece_at [] breaks (before ++ (choice ∷ [])) at ≡ Some piece
      by_found None is e = absurd (no_row (nat_le at.len 11 && is_unbroken breaks at) e)
      by_found (Some c) is e = ap (λ o. option_map_or (λ x. Some (piece_of_choice x)) o (cond (nat_le at.len 11 && is_unbroken breaks at) (option_map piece_of_hit None) None)) (find_kept (is_exactly at) before choice c is) ∙ e

  pub choice_new : piece_at [] breaks before at ≡ None → is_exactly at choice ≡ true → piece_at [] breaks (before ++ (choice ∷ [])) at ≡ Some (piece_of_choice choice)
  unfolding piece_at
  choice_new e f = by_found (find (is_exactly at) before) refl e
    where
      by_found : (o : Option Choice) → find (is_exactly at) before ≡ o → option_map_or (λ c. Some (piece_of_choice c)) o (cond (nat_le at.len 11 && is_unbroken breaks at) (option_map piece_of_hit None) None) ≡ None
          → piece_at [] breaks (before ++ (choice ∷ [])) at ≡ Some (piece_of_choice choice)
      by_found None is e = ap (λ o. option_map_or (λ x. Some (piece_of_choice x)) o (cond (nat_le at.len 11 && is_unbroken breaks at) (option_map piece_of_hit None) None)) (find_new (is_exactly at) before choice is f)
      by_found (Some c) is e = absurd (none-some (piece_of_choice c) (sym e))

  pub choice_other : is_exactly at choice ≡ false → piece_at [] breaks (before ++ (choice ∷ [])) at ≡ piece_at [] breaks before at
  unfolding piece_at
  choice_other f = ap (λ o. option_map_or (λ x. Some (piece_of_choice x)) o (cond (nat_le at.len 11 && is_unbroken breaks at) (option_map piece_of_hit None) None)) (find_other (is_exactly at) before choice f)

module _ (breaks : List ℕ) (choices : List Choice) (before : List Hit) (row : Hit) (at : Interval) where
  pub row_kept : (piece : Piece) → piece_at before breaks choices at ≡ Some piece → piece_at (before ++ (row ∷ [])) breaks choices at ≡ Some piece
  unfolding piece_at
  row_kept piece e = by_found (find (is_exactly at) choices) (nat_le at.len 11 && is_unbroken breaks at) (find (λ hit. is_hit_at at hit && keeps_choices choices at hit.phrase) before) refl e
    where
      by_found : (o : Option Choice) (b : Bool) (r : Option Hit) → find (λ hit. is_hit_at at hit && keeps_choices choices at hit.phrase) before ≡ r
          → option_map_or (λ c. Some (piece_of_choice c)) o (cond b (option_map piece_of_hit r) None) ≡ Some piece
          → option_map_or (λ c. Some (piece_of_choice c)) o (cond b (option_map piece_of_hit (find (λ hit. is_hit_at at hit && keeps_choices choices at hit.phrase) (before ++ (row ∷ [])))) None) ≡ Some piece
      by_found (Some c) b r is e = e
      by_found None false r is e = absurd (none-some piece e)
      by_found None true None is e = absurd (none-some piece e)
      by_found None true (Some hit) is e = ap (option_map piece_of_hit) (find_kept (λ h. is_hit_at at h && keeps_choices choices at h.phrase) before row hit is) ∙ e

  pub row_new : piece_at before breaks choices at ≡ None → nat_le at.len 11 ≡ true → is_hit_at at row ≡ true → (is_unbroken breaks at && keeps_choices choices at row.phrase) ≡ true
      → piece_at (before ++ (row ∷ [])) breaks choices at ≡ Some (piece_of_hit row)
  unfolding piece_at
  row_new e short here may =
      let both = BothTrue-from (is_unbroken breaks at) (keeps_choices choices at row.phrase) may in
      by_found (find (is_exactly at) choices) (nat_le at.len 11 && is_unbroken breaks at) (find (λ hit. is_hit_at at hit && keeps_choices choices at hit.phrase) before) refl
      (ap₂ (λ a b. a && b) short both.first) (ap₂ (λ a b. a && b) here both.second) e
    where
      by_found : (o : Option Choice) (b : Bool) (r : Option Hit) → find (λ hit. is_hit_at at hit && keeps_choices choices at hit.phrase) before ≡ r → b ≡ true
          → (is_hit_at at row && keeps_choices choices at row.phrase) ≡ true
          → option_map_or (λ c. Some (piece_of_choice c)) o (cond b (option_map piece_of_hit r) None) ≡ None
          → option_map_or (λ c. Some (piece_of_choice c)) o (cond b (option_map piece_of_hit (find (λ hit. is_hit_at at hit && keeps_choices choices at hit.phrase) (before ++ (row ∷ [])))) None) ≡ Some (piece_of_hit row)
      by_found (Some c) b r is t f e = absurd (none-some (piece_of_choice c) (sym e))
      by_found None false r is t f e = absurd (false≢true t)
      by_found None true (Some hit) is t f e = absurd (none-some (piece_of_hit hit) (sym e))
      by_found None true None is t f e = ap (option_map piece_of_hit) (find_new (λ h. is_hit_at at h && keeps_choices choices at h.phrase) before row is f)

  pub row_other : is_hit_at at row ≡ false → piece_at (before ++ (row ∷ [])) breaks choices at ≡ piece_at before breaks choices at
  unfolding piece_at
  row_other f =
      ap (λ r. option_map_or (λ c. Some (piece_of_choice c)) (find (is_exactly at) choices) (cond (nat_le at.len 11 && is_unbroken breaks at) (option_map piece_of_hit r) None))
      (find_other (λ h. is_hit_at at h && keeps_choices choices at h.phrase) before row (ap (λ b. b && keeps_choices choices at row.phrase) f))

  pub row_refused : (is_unbroken breaks at && keeps_choices choices at row.phrase) ≡ false → piece_at (before ++ (row ∷ [])) breaks choices at ≡ piece_at before breaks choices at
  unfolding piece_at
  row_refused f = by_tests (is_unbroken breaks at) (keeps_choices choices at row.phrase) refl refl f
    where
      nothing : (a : Bool) → (a && false) ≡ false
      nothing true = refl
      nothing false = refl

      by_tests : (u k : Bool) → is_unbroken breaks at ≡ u → keeps_choices choices at row.phrase ≡ k → (u && k) ≡ false
          → option_map_or (λ c. Some (piece_of_choice c)) (find (is_exactly at) choices) (cond (nat_le at.len 11 && is_unbroken breaks at) (option_map piece_of_hit (find (λ hit. is_hit_at at hit && keeps_choices choices at hit.phrase) (before ++ (row ∷ [])))) None)
          ≡ option_map_or (λ c. Some (piece_of_choice c)) (find (is_exactly at) choices) (cond (nat_le at.len 11 && is_unbroken breaks at) (option_map piece_of_hit (find (λ hit. is_hit_at at hit && keeps_choices choices at hit.phrase) before)) None)
      by_tests true true u k f = absurd (true≢false f)
      by_tests true false u k f =
          ap (λ r. option_map_or (λ c. Some (piece_of_choice c)) (find (is_exactly at) choices) (cond (nat_le at.len 11 && is_unbroken breaks at) (option_map piece_of_hit r) None))
          (find_other (λ h. is_hit_at at h && keeps_choices choices at h.phrase) before row (ap (λ b. is_hit_at at row && b) k ∙ nothing (is_hit_at at row)))
      by_tests false k u e f =
          let no = ap (λ b. nat_le at.len 11 && b) u ∙ nothing (nat_le at.len 11) in
          let left = ap (λ b. option_map_or (λ c. Some (piece_of_choice c)) (find (is_exactly at) choices) (cond b (option_map piece_of_hit (find (λ hit. is_hit_at at hit && keeps_choices choices at hit.phrase) (before ++ (row ∷ [])))) None)) no in
          let right = ap (λ b. option_map_or (λ c. Some (piece_of_choice c)) (find (is_exactly at) choices) (cond b (option_map piece_of_hit (find (λ hit. is_hit_at at hit && keeps_choices choices at hit.phrase) before)) None)) no in
          left ∙ sym right
