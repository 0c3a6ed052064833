-- The rows of a key in the base, one after the other.
use Rattle.std.proofs.Common.{◌≡◌, ℕ, ◌+◌, ◌<◌, ◌≤◌, true, false, List, [], ◌∷◌, ◌++◌, length, map, ap, ap₂, sym, ◌∙◌, subst, Option, Some}
use Rattle.std.specs.List.{find, list_all, slice_get}
use Rattle.std.specs.Str.{bytes_eq}
use Rattle.std.proofs.lemmas.Bool.{cond-true, cond-false, and_parts, leb-true}
use Rattle.std.proofs.lemmas.List.Elements.{filter-append}
use Rattle.std.proofs.lemmas.List.{map-append, append_assoc}
use Rattle.std.proofs.lemmas.Slice.Eq.{bytes_eq-Decides}
use Rattle.chew_spec_syllable.specs.Row.{Row, is_pair, is_row}
use Rattle.chew_spec_dictionary.specs.Dictionary.{is_map}
use Rattle.chew_spec_dictionary.specs.Call.{Hit}
use Rattle.chew_spec_dictionary.specs.System.{is_under, row_of, rows_of}
use Rattle.chew_spec_dictionary.proofs.Rows.{rows_of_map}
use Rattle.chew_spec_layers.specs.Mark.{Marked}
use Rattle.chew_spec_layers.specs.Overlay.{unmarked_rows}
use Rattle.chew_plain.proofs.KeyRows.{has_key, row_among}
use Rattle.chew_trie_read.specs.Rest.{rows_between}
use Rattle.chew_trie_read.proofs.Among.{rows_more}
use Rattle.chew_layers.specs.Visible.{base_rows}
use Rattle.chew_layers.proofs.Picked.{all_picked, picked_pass}
use Rattle.chew_layers.proofs.Visible.{is_unmarked}

-- rows that are of a key, and in range
pub record AreOfKey (key : List ℕ) (rows : List Row) : Type 0 where
  pub under : list_all (is_under key) rows ≡ true
  pub each : list_all is_row rows ≡ true

-- the rows of a key in a map are
pub of_key : (base rows : List Row) (key : List ℕ) → is_map base ≡ true → list_all is_row base ≡ true → rows ≡ rows_of base key → AreOfKey key rows
of_key base rows key m each e =
    let same = e ∙ rows_of_map base key m in
    record {
      under = ap (list_all (is_under key)) same ∙ picked_pass (is_under key) base;
      each = ap (list_all is_row) same ∙ all_picked is_row (is_under key) base each;
    }

-- so is each of them, and so are those behind it
pub first_of_key : (key : List ℕ) (row : Row) (rest : List Row) → AreOfKey key (row ∷ rest) → (row.key ≡ key) × (is_row row ≡ true)
first_of_key key row rest h = (has_key key row (and_parts _ _ h.under).0, (and_parts _ _ h.each).0)

pub rest_of_key : (key : List ℕ) (row : Row) (rest : List Row) → AreOfKey key (row ∷ rest) → AreOfKey key rest
rest_of_key key row rest h = record {
  under = (and_parts _ _ h.under).1;
  each = (and_parts _ _ h.each).1;
}

-- the first row with a phrase
abbrev pub row_with_phrase : List ℕ → List Row → Option Row
row_with_phrase phrase rows = find (λ (row : Row). bytes_eq row.phrase phrase) rows

-- what a walk over the rows of a key, to find one, knows at a place
pub record IsSought (base : List Row) (key phrase : List ℕ) (place end : ℕ) : Type 0 where
  pub found : row_with_phrase phrase (rows_between base place end) ≡ row_of base key phrase
  pub left : AreOfKey key (rows_between base place end)

pub sought_first : (base : List Row) (key phrase : List ℕ) (place end : ℕ) → is_map base ≡ true → list_all is_row base ≡ true → rows_between base place end ≡ rows_of base key
    → IsSought base key phrase place end
sought_first base key phrase place end m each e = record {
  found = ap (row_with_phrase phrase) (e ∙ rows_of_map base key m) ∙ row_among key phrase base;
  left = of_key base (rows_between base place end) key m each e;
}

module _ (base : List Row) (key phrase : List ℕ) (place end : ℕ) (row : Row) (h : IsSought base key phrase place end) (less : place < end) (within : end ≤ length base) (at : slice_get base place ≡ Some row) where
  more : rows_between base place end ≡ row ∷ rows_between base (place + 1) end
  more = rows_more base place end row less within at

  known : AreOfKey key (row ∷ rows_between base (place + 1) end)
  known = subst (AreOfKey key) more h.left

  pub sought_here : bytes_eq row.phrase phrase ≡ true → row_of base key phrase ≡ Some (record { key = key; phrase = phrase; freq = row.freq; time = row.time })
  sought_here e =
      sym h.found ∙ ap (row_with_phrase phrase) more
      ∙ cond-true (bytes_eq row.phrase phrase) (Some row) _ e
      ∙ ap₂ (λ (k p : List ℕ). let r : Row = record { key = k; phrase = p; freq = row.freq; time = row.time } in Some r)
      (first_of_key key row _ known).0 ((bytes_eq-Decides row.phrase phrase).0 e)

  pub sought_range : row.freq ≤ 99_999_999
  sought_range = leb-true _ _ (and_parts (is_pair row.key row.phrase) _ (first_of_key key row _ known).1).1

  pub sought_later : bytes_eq row.phrase phrase ≡ false → IsSought base key phrase (place + 1) end
  sought_later e = record {
    found = sym (cond-false (bytes_eq row.phrase phrase) (Some row) _ e) ∙ ap (row_with_phrase phrase) (sym more) ∙ h.found;
    left = rest_of_key key row _ known;
  }

-- the rows with no mark in two layers
abbrev pub bare : (frozen fresh : List Marked) → List Row → List Row
bare frozen fresh rows = unmarked_rows (unmarked_rows rows frozen) fresh

bare_more : (frozen fresh : List Marked) (row : Row) (rest : List Row) → bare frozen fresh (row ∷ rest) ≡ bare frozen fresh (row ∷ []) ++ bare frozen fresh rest
bare_more frozen fresh row rest =
    ap (λ (l : List Row). unmarked_rows l fresh) (filter-append (is_unmarked frozen) (row ∷ []) rest)
    ∙ filter-append (is_unmarked fresh) (unmarked_rows (row ∷ []) frozen) (unmarked_rows rest frozen)

-- what a walk over the rows of a key, to add their hits, knows at a place
pub record IsPushed (f : Row → Hit) (base : List Row) (frozen fresh : List Marked) (key : List ℕ) (old now : List Hit) (place end : ℕ) : Type 0 where
  pub whole : now ++ map f (bare frozen fresh (rows_between base place end)) ≡ old ++ map f (base_rows base frozen fresh key)
  pub left : AreOfKey key (rows_between base place end)

pub pushed_first : (f : Row → Hit) (base : List Row) (frozen fresh : List Marked) (key : List ℕ) (old : List Hit) (place end : ℕ)
    → is_map base ≡ true → list_all is_row base ≡ true → rows_between base place end ≡ rows_of base key → IsPushed f base frozen fresh key old old place end
pushed_first f base frozen fresh key old place end m each e = record {
  whole = ap (λ (l : List Row). old ++ map f (bare frozen fresh l)) e;
  left = of_key base (rows_between base place end) key m each e;
}

pub pushed_more : (f : Row → Hit) (base : List Row) (frozen fresh : List Marked) (key : List ℕ) (old now next : List Hit) (place end : ℕ) (row : Row)
    → IsPushed f base frozen fresh key old now place end → place < end → end ≤ length base → slice_get base place ≡ Some row
    → next ≡ now ++ map f (bare frozen fresh (record { key = key; phrase = row.phrase; freq = row.freq; time = row.time } ∷ []))
    → IsPushed f base frozen fresh key old next (place + 1) end
pushed_more f base frozen fresh key old now next place end row h less within at e = record {
  whole = ap (λ (l : List Hit). l ++ map f (bare frozen fresh rest)) (e ∙ ap (λ (k : List ℕ). now ++ map f (bare frozen fresh (with_key k ∷ []))) (sym (first_of_key key row rest known).0))
      ∙ append_assoc now (map f (bare frozen fresh (row ∷ []))) (map f (bare frozen fresh rest))
      ∙ ap (λ (l : List Hit). now ++ l) (sym (ap (map f) (ap (bare frozen fresh) more ∙ bare_more frozen fresh row rest) ∙ map-append f (bare frozen fresh (row ∷ [])) (bare frozen fresh rest)))
      ∙ h.whole;
  left = rest_of_key key row rest known;
}
  where
    with_key : List ℕ → Row
    with_key k = record { key = k; phrase = row.phrase; freq = row.freq; time = row.time }

    rest : List Row
    rest = rows_between base (place + 1) end

    more : rows_between base place end ≡ row ∷ rest
    more = rows_more base place end row less within at

    known : AreOfKey key (row ∷ rest)
    known = subst (AreOfKey key) more h.left

-- the row at a place of the walk is of the key, with a phrase that fits it and a frequency in range
pub pushed_row : (key : List ℕ) (base : List Row) (place end : ℕ) (row : Row) → AreOfKey key (rows_between base place end) → place < end → end ≤ length base → slice_get base place ≡ Some row
    → (row.key ≡ key) × (is_pair key row.phrase ≡ true) × (row.freq ≤ 99_999_999)
pushed_row key base place end row h less within at =
    let known = first_of_key key row _ (subst (AreOfKey key) (rows_more base place end row less within at) h) in
    let both = and_parts (is_pair row.key row.phrase) _ known.1 in
    (known.0, ap (λ (k : List ℕ). is_pair k row.phrase) (sym known.0) ∙ both.0, leb-true _ _ both.1)
