-- A hit or a row of the system offered as the first of an interval.
use Rattle.std.proofs.Common.{◌≡◌, ℕ, ◌+◌, ◌<◌, Bool, true, false, not, cond, List, [], ◌∷◌, ◌++◌, length, get_or, map, filter, take, bytes_eq, Option, Some, sym, refl, ap, ap₂, ◌∙◌, subst}
use Rattle.std.specs.List.{list_any}
use Rattle.std.proofs.lemmas.List.{map-append, take_more}
use Rattle.std.proofs.lemmas.List.Elements.{filter-append}
use Rattle.chew_spec_syllable.specs.Row.{Row}
use Rattle.chew_spec_dictionary.specs.Call.{Hit}
use Rattle.chew_spec_dictionary.specs.Look.{Interval}
use Rattle.chew_spec_phrasing.specs.CombinedRows.{as_shown, is_free_of, is_shown, shown_hit}
use Rattle.chew_phrasing.specs.Least.{IsLeast, comes_before, found_one, free_one}
use Rattle.chew_phrasing.proofs.Leasts.{IsLeast-failed, IsLeast-later, IsLeast-same, IsLeast-taken}

module _ (passes : Hit → Bool) (before : List Hit) (first : Option Hit) (h : IsLeast passes before first) where
  -- a hit that isn't shown
  pub hit_hidden : (hit : Hit) → is_shown hit ≡ false → IsLeast passes (before ++ found_one hit) first
  hit_hidden hit e = IsLeast-same passes before (found_one hit) first (ap (λ b. cond b (as_shown hit ∷ []) []) e) h

  one_found : (hit : Hit) (top : Option Hit) → is_shown hit ≡ true → IsLeast passes (before ++ (as_shown hit ∷ [])) top → IsLeast passes (before ++ found_one hit) top
  one_found hit top e k = subst (λ more. IsLeast passes (before ++ more) top) (sym (ap (λ b. cond b (as_shown hit ∷ []) []) e)) k

  -- one that is shown later, that fails, or that is taken
  pub hit_later : (hit : Hit) (phrase : List ℕ) (freq : ℕ) → is_shown hit ≡ true → phrase ≡ hit.phrase → freq ≡ hit.freq → comes_before phrase freq first ≡ false → IsLeast passes (before ++ found_one hit) first
  hit_later hit phrase freq shown p f later =
      one_found hit first shown (IsLeast-later passes before first (as_shown hit) (ap₂ (λ a b. comes_before a b first) (sym p) (sym f) ∙ later) h)

  pub hit_failed : (hit : Hit) → is_shown hit ≡ true → passes (as_shown hit) ≡ false → IsLeast passes (before ++ found_one hit) first
  hit_failed hit shown fails = one_found hit first shown (IsLeast-failed passes before first (as_shown hit) fails h)

  pub hit_taken : (hit top : Hit) (phrase : List ℕ) (freq : ℕ) → is_shown hit ≡ true → phrase ≡ hit.phrase → freq ≡ hit.freq → comes_before phrase freq first ≡ true → passes (as_shown hit) ≡ true → top ≡ as_shown hit → IsLeast passes (before ++ found_one hit) (Some top)
  hit_taken hit top phrase freq shown p f sooner does is =
      subst (λ t. IsLeast passes (before ++ found_one hit) (Some t)) (sym is)
      (one_found hit (Some (as_shown hit)) shown (IsLeast-taken passes before first (as_shown hit) (ap₂ (λ a b. comes_before a b first) (sym p) (sym f) ∙ sooner) does h))

  abbrev row_hit : Interval → List ℕ → ℕ → Hit
  row_hit at phrase freq = record { start = at.start; len = at.len; phrase = phrase; freq = freq; hidden = false }

  either_free : (found : List Hit) (at : Interval) (phrase : List ℕ) (freq : ℕ) → IsLeast passes (before ++ (row_hit at phrase freq ∷ [])) first → IsLeast passes (before ++ free_one found at phrase freq) first
  either_free found at phrase freq k = by_test (list_any (λ hit. bytes_eq hit.phrase phrase) found)
    where
      by_test : (b : Bool) → IsLeast passes (before ++ cond b [] (row_hit at phrase freq ∷ [])) first
      by_test true = IsLeast-same passes before [] first refl h
      by_test false = k

  -- a row of the system that is shown later, that fails, whose phrase a hit has, or that is taken
  pub row_later : (found : List Hit) (at : Interval) (phrase : List ℕ) (freq : ℕ) → comes_before phrase freq first ≡ false → IsLeast passes (before ++ free_one found at phrase freq) first
  row_later found at phrase freq later = either_free found at phrase freq (IsLeast-later passes before first (row_hit at phrase freq) later h)

  pub row_failed : (found : List Hit) (at : Interval) (phrase : List ℕ) (freq : ℕ) → passes (row_hit at phrase freq) ≡ false → IsLeast passes (before ++ free_one found at phrase freq) first
  row_failed found at phrase freq fails = either_free found at phrase freq (IsLeast-failed passes before first (row_hit at phrase freq) fails h)

  pub row_had : (found : List Hit) (at : Interval) (phrase : List ℕ) (freq : ℕ) → list_any (λ hit. bytes_eq hit.phrase phrase) found ≡ true → IsLeast passes (before ++ free_one found at phrase freq) first
  row_had found at phrase freq e = IsLeast-same passes before (free_one found at phrase freq) first (ap (λ b. cond b [] (row_hit at phrase freq ∷ [])) e) h

  pub row_taken : (found : List Hit) (at : Interval) (phrase : List ℕ) (freq : ℕ) (top : Hit) → list_any (λ hit. bytes_eq hit.phrase phrase) found ≡ false → comes_before phrase freq first ≡ true → passes (row_hit at phrase freq) ≡ true
      → top ≡ row_hit at phrase freq → IsLeast passes (before ++ free_one found at phrase freq) (Some top)
  row_taken found at phrase freq top e sooner does is =
      subst (λ t. IsLeast passes (before ++ free_one found at phrase freq) (Some t)) (sym is)
      (subst (λ more. IsLeast passes (before ++ more) (Some (row_hit at phrase freq))) (sym (ap (λ b. cond b [] (row_hit at phrase freq ∷ [])) e))
      (IsLeast-taken passes before first (row_hit at phrase freq) sooner does h))

-- one row more of the system's
pub rows_more : (found : List Hit) (at : Interval) (rows : List Row) (i : ℕ) (row : Row) → i < length rows → row ≡ get_or rows i row
    → map (shown_hit at) (filter (is_free_of found) (take (i + 1) rows)) ≡ map (shown_hit at) (filter (is_free_of found) (take i rows)) ++ free_one found at row.phrase row.freq
rows_more found at rows i row h e =
    ap (λ xs. map (shown_hit at) (filter (is_free_of found) xs)) (take_more rows i row h ∙ ap (λ x. take i rows ++ (x ∷ [])) (sym e))
    ∙ (ap (map (shown_hit at)) (filter-append (is_free_of found) (take i rows) (row ∷ []))
    ∙ (map-append (shown_hit at) (filter (is_free_of found) (take i rows)) (filter (is_free_of found) (row ∷ []))
    ∙ ap (λ xs. map (shown_hit at) (filter (is_free_of found) (take i rows)) ++ xs) (by_test (list_any (λ hit. bytes_eq hit.phrase row.phrase) found))))
  where
    by_test : (b : Bool) → map (shown_hit at) (cond (not b) (row ∷ []) []) ≡ cond b [] (record { start = at.start; len = at.len; phrase = row.phrase; freq = row.freq; hidden = false } ∷ [])
    by_test true = refl
    by_test false = refl
