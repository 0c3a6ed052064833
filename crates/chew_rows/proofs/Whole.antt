-- Rows that are read before their pairs are compared.
use Rattle.std.proofs.Common.{◌≡◌, ℕ, ◌<◌, true, false, leb, List, [], ◌∷◌, ◌++◌, length, Ok, refl, sym, ap, ◌∙◌}
use Rattle.std.specs.List.{list_any}
use Rattle.std.proofs.lemmas.Bool.{and_from, and_parts, cond-false, lt-leb, not-true, not_from_false, or_from, or_parts}
use Rattle.std.proofs.lemmas.List.Folds.{list_any-append}
use Rattle.chew_spec_syllable.specs.Row.{Row, is_pair_of, no_pair_twice}
use Rattle.chew_spec_text.specs.DictionaryText.{rows_limit, with_row}
use Rattle.chew_spec_text.proofs.Rows.{apart_back}
use Rattle.chew_rows.specs.Lines.{Follows, taken}

-- rows without the last one have no pair twice
once_before : (rows : List Row) (row : Row) → no_pair_twice (rows ++ row ∷ []) ≡ true → no_pair_twice rows ≡ true
once_before [] row h = refl
once_before (first ∷ rows) row h =
    let both = and_parts _ _ h in
    let none = or_parts _ _ (sym (list_any-append (is_pair_of first.key first.phrase) rows (row ∷ [])) ∙ not-true _ both.0) in
    and_from _ _ (not_from_false _ none.0) (once_before rows row both.1)

-- and none of them is of the last one's
last_apart : (rows : List Row) (row : Row) → no_pair_twice (rows ++ row ∷ []) ≡ true → list_any (is_pair_of row.key row.phrase) rows ≡ false
last_apart [] row h = refl
last_apart (first ∷ rows) row h =
    let both = and_parts _ _ h in
    let none = or_parts _ _ (sym (list_any-append (is_pair_of first.key first.phrase) rows (row ∷ [])) ∙ not-true _ both.0) in
    or_from _ _ (apart_back first row (or_parts _ _ none.1).0) (last_apart rows row both.1)

-- a line with a row, for which there is room
pub follows_more : (rows pushed : List Row) (line : List ℕ) (row : Row) → pushed ≡ rows ++ row ∷ [] → with_row rows (Ok row) ≡ taken rows line → length rows < 250_000 → Follows rows line pushed
follows_more rows pushed line row p t few =
    let once : no_pair_twice pushed ≡ true → no_pair_twice (rows ++ row ∷ []) ≡ true = λ h. ap no_pair_twice (sym p) ∙ h in
    record {
      apart = λ h. once_before rows row (once h);
      is = λ h. sym t
          ∙ (cond-false (list_any (is_pair_of row.key row.phrase) rows) _ _ (last_apart rows row (once h))
          ∙ (cond-false (leb rows_limit (length rows)) _ _ (lt-leb _ _ few) ∙ ap Ok (sym p)));
    }
