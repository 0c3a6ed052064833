-- The row of a key that is shown first, of the system's rows alone: found one row after the other, and what it settles.
use Rattle.std.proofs.Common.{◌≡◌, ℕ, ◌+◌, ◌<◌, Bool, true, false, ⊎_elim, List, [], ◌∷◌, ◌++◌, length, get_or, map, filter, take, slice_get, Contains, Option, Some, None, is_lt, sym, refl, ap, ◌∙◌, subst, true≢false}
use Rattle.std.specs.Cmp.{IsStrictWeakOrder}
use Rattle.std.proofs.lemmas.List.{take_more}
use Rattle.std.proofs.lemmas.List.Elements.{Contains-append_cases, Contains-append_left, Contains-append_right, Contains-push}
use Rattle.std.proofs.lemmas.List.MinMax.{ranks_by}
use Rattle.std.proofs.lemmas.Option.{none-some, same_Some}
use Rattle.chew_spec_syllable.specs.Row.{Row}
use Rattle.chew_spec_dictionary.specs.Call.{Hit}
use Rattle.chew_spec_dictionary.specs.Look.{Interval, shown_cmp, shown_hit_cmp}
use Rattle.chew_spec_dictionary.proofs.Rows.{shown_hit_total, shown_total}
use Rattle.chew_spec_phrasing.specs.CombinedRows.{shown_hit}
use Rattle.chew_spec_phrasing.proofs.Greatest.{not_above_itself}
use Rattle.chew_spec_phrasing.proofs.Membership.{Contains-filter, Contains-from_filter, Contains-from_map, Contains-map, Contains-single}
use Rattle.chew_spec_dictionary.specs.System.{rows_of}
use Rattle.chew_phrasing.specs.FirstPlace.{IsFirstPlace, IsFirstSoFar, IsShownFirst, rows_between}
use Rattle.chew_phrasing.specs.Least.{IsBefore, IsLeast, comes_before}

rows_order : IsStrictWeakOrder (λ (x y : Row). is_lt (shown_cmp x y))
rows_order = ranks_by shown_total (λ x. x)

order : IsStrictWeakOrder (λ (x y : Hit). is_lt (shown_hit_cmp x y))
order = ranks_by shown_hit_total (λ x. x)

-- of one row it is the first
of_one : (row : Row) → IsShownFirst (row ∷ []) row
of_one row = record {
  among = Contains-push [] row;
  unbeaten = λ other i. subst (λ x. is_lt (shown_cmp x row) ≡ false) (Contains-single row other i) (not_above_itself shown_cmp shown_total row);
}

-- a row more, which isn't shown before the first
with_later : (rows : List Row) (first row : Row) → is_lt (shown_cmp row first) ≡ false → IsShownFirst rows first → IsShownFirst (rows ++ (row ∷ [])) first
with_later rows first row later h = record {
  among = Contains-append_left rows (row ∷ []) first h.among;
  unbeaten = λ other i. ⊎_elim
      (λ old. h.unbeaten other old)
      (λ new. subst (λ x. is_lt (shown_cmp x first) ≡ false) (Contains-single row other new) later)
      (Contains-append_cases rows (row ∷ []) other i);
}

-- one that is
with_sooner : (rows : List Row) (first row : Row) → is_lt (shown_cmp row first) ≡ true → IsShownFirst rows first → IsShownFirst (rows ++ (row ∷ [])) row
with_sooner rows first row sooner h = record {
  among = Contains-push rows row;
  unbeaten = λ other i. ⊎_elim
      (λ old. rows_order.chain other first row (h.unbeaten other old) (rows_order.one_way row first sooner))
      (λ new. subst (λ x. is_lt (shown_cmp x row) ≡ false) (Contains-single row other new) (not_above_itself shown_cmp shown_total row))
      (Contains-append_cases rows (row ∷ []) other i);
}

-- the same of the first rows of a list
pub first_of_one : (all rows : List Row) (place : ℕ) (row : Row) → slice_get all place ≡ Some row → 0 < length rows → row ≡ get_or rows 0 row → IsFirstSoFar all (take 1 rows) place row.phrase row.freq
first_of_one all rows place row is some there = record {
  found = record {
    row = row;
    is = is;
    first = subst (λ xs. IsShownFirst xs row) (sym (take_more rows 0 row some ∙ ap (λ x. take 0 rows ++ (x ∷ [])) (sym there))) (of_one row);
  };
  its_phrase = refl;
  its_freq = refl;
}

pub one_later : (all rows : List Row) (place i : ℕ) (row : Row) (phrase : List ℕ) (freq : ℕ) (h : IsFirstSoFar all (take i rows) place phrase freq) → i < length rows → row ≡ get_or rows i row
    → is_lt (shown_cmp row (record { key = []; phrase = phrase; freq = freq; time = 0 })) ≡ false → IsFirstSoFar all (take (i + 1) rows) place phrase freq
one_later all rows place i row phrase freq h inside there later = record {
  found = record {
    row = h.found.row;
    is = h.found.is;
    first = subst (λ xs. IsShownFirst xs h.found.row) (sym (take_more rows i row inside ∙ ap (λ x. take i rows ++ (x ∷ [])) (sym there)))
        (with_later (take i rows) h.found.row row
        (subst (λ p. is_lt (shown_cmp row (record { key = []; phrase = p; freq = h.found.row.freq; time = 0 })) ≡ false) (sym h.its_phrase)
        (subst (λ f. is_lt (shown_cmp row (record { key = []; phrase = phrase; freq = f; time = 0 })) ≡ false) (sym h.its_freq) later))
        h.found.first);
  };
  its_phrase = h.its_phrase;
  its_freq = h.its_freq;
}

pub one_sooner : (all rows : List Row) (place next i : ℕ) (row : Row) (phrase : List ℕ) (freq : ℕ) (h : IsFirstSoFar all (take i rows) place phrase freq) → slice_get all next ≡ Some row → i < length rows → row ≡ get_or rows i row
    → is_lt (shown_cmp row (record { key = []; phrase = phrase; freq = freq; time = 0 })) ≡ true → IsFirstSoFar all (take (i + 1) rows) next row.phrase row.freq
one_sooner all rows place next i row phrase freq h is inside there sooner = record {
  found = record {
    row = row;
    is = is;
    first = subst (λ xs. IsShownFirst xs row) (sym (take_more rows i row inside ∙ ap (λ x. take i rows ++ (x ∷ [])) (sym there)))
        (with_sooner (take i rows) h.found.row row
        (subst (λ p. is_lt (shown_cmp row (record { key = []; phrase = p; freq = h.found.row.freq; time = 0 })) ≡ true) (sym h.its_phrase)
        (subst (λ f. is_lt (shown_cmp row (record { key = []; phrase = phrase; freq = f; time = 0 })) ≡ true) (sym h.its_freq) sooner))
        h.found.first);
  };
  its_phrase = refl;
  its_freq = refl;
}

-- the rows of a key as hits of an interval, of which the row that is shown first is known
module _ (at : Interval) (free : Row → Bool) (rows : List Row) (first : Row) (h : IsShownFirst rows first) where
  none_before : (hit : Hit) → Contains (map (shown_hit at) (filter free rows)) hit → is_lt (shown_hit_cmp hit (shown_hit at first)) ≡ false
  none_before hit i =
      let from = Contains-from_map (shown_hit at) (filter free rows) hit i in
      subst (λ x. is_lt (shown_hit_cmp x (shown_hit at first)) ≡ false) from.2 (h.unbeaten from.0 (Contains-from_filter free rows from.0 from.1).0)

  -- where it isn't shown before the first of the hits so far, no row of the key is
  pub stays_first : (passes : Hit → Bool) (before : List Hit) (top : Option Hit) → comes_before first.phrase first.freq top ≡ false → IsLeast passes before top → IsLeast passes (before ++ map (shown_hit at) (filter free rows)) top
  stays_first passes before None later l = absurd (true≢false later)
  stays_first passes before (Some top) later l = record {
    some = λ other e.
        let b = l.some other e in
        record {
          among = Contains-append_left before (map (shown_hit at) (filter free rows)) other b.among;
          does = b.does;
          unbeaten = λ one i p. ⊎_elim
              (λ old. b.unbeaten one old p)
              (λ new. subst (λ x. is_lt (shown_hit_cmp one x) ≡ false) (same_Some top other e) (order.chain one (shown_hit at first) top (none_before one new) later))
              (Contains-append_cases before (map (shown_hit at) (filter free rows)) one i);
        };
    none = λ e other i. absurd (none-some top (sym e));
  }

  -- where it is, passes and is free, it is the first
  pub becomes_first : (passes : Hit → Bool) (before : List Hit) (top : Option Hit) → comes_before first.phrase first.freq top ≡ true → passes (shown_hit at first) ≡ true → free first ≡ true → IsLeast passes before top → IsLeast passes (before ++ map (shown_hit at) (filter free rows)) (Some (shown_hit at first))
  becomes_first passes before top sooner does is_free l = record {
    some = λ other e. subst (IsBefore passes (before ++ map (shown_hit at) (filter free rows))) (same_Some (shown_hit at first) other e) (record {
      among = Contains-append_right before (map (shown_hit at) (filter free rows)) (shown_hit at first) (Contains-map (shown_hit at) (filter free rows) first (Contains-filter free rows first h.among is_free));
      does = does;
      unbeaten = λ one i p. ⊎_elim
          (λ old. by_first top l sooner one old p)
          (λ new. none_before one new)
          (Contains-append_cases before (map (shown_hit at) (filter free rows)) one i);
    });
    none = λ e. absurd (none-some (shown_hit at first) (sym e));
  }
    where
      by_first : (top : Option Hit) → IsLeast passes before top → comes_before first.phrase first.freq top ≡ true → (one : Hit) → Contains before one → passes one ≡ true → is_lt (shown_hit_cmp one (shown_hit at first)) ≡ false
      by_first None l sooner one i p = absurd (true≢false (sym p ∙ l.none refl one i))
      by_first (Some top) l sooner one i p =
          order.chain one top (shown_hit at first) ((l.some top refl).unbeaten one i p) (order.one_way (shown_hit at first) top sooner)

-- the row at the place that was found is shown first of the key's rows
pub first_of_key : (all : List Row) (key : List ℕ) (start end place : ℕ) (row : Row) → rows_between all start end ≡ rows_of all key → IsFirstPlace all (rows_between all start end) place → slice_get all place ≡ Some row → IsShownFirst (rows_of all key) row
first_of_key all key start end place row together p there =
    subst (λ xs. IsShownFirst xs row) together (subst (IsShownFirst (rows_between all start end)) (same_Some p.row row (sym p.is ∙ there)) p.first)
