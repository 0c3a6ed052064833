-- The hits of a key's visible rows: their order, and the greatest frequency that is shown.
use Rattle.std.proofs.Common.{◌≡◌, ℕ, Bool, true, false, List, [], ◌∷◌, not, max, map, cond, refl, ap, sym, ◌∙◌, Ordering, is_lt, arith}
use Rattle.std.specs.List.{fold}
use Rattle.std.proofs.lemmas.Bool.{cond_both}
use Rattle.chew_spec_syllable.specs.Row.{Row}
use Rattle.chew_spec_dictionary.specs.Call.{Hit}
use Rattle.chew_spec_dictionary.specs.Dictionary.{is_map}
use Rattle.chew_spec_dictionary.specs.HiddenPairs.{is_hidden, shown_rows}
use Rattle.chew_spec_dictionary.specs.Look.{Interval, codes_at, hit_of, shown_cmp, shown_hit_cmp}
use Rattle.chew_spec_dictionary.specs.Order.{put, in_order}
use Rattle.chew_spec_dictionary.specs.System.{greatest, peak_of, rows_under}
use Rattle.chew_spec_dictionary.proofs.Sorting.{in_order_map}
use Rattle.chew_spec_layers.specs.Mark.{Marked, is_layer}
use Rattle.chew_spec_layers.specs.Overlay.{overlay}
use Rattle.chew_plain.specs.Look.{hits_at}
use Rattle.chew_plain.proofs.Outcomes.{shown_under}
use Rattle.chew_layers.specs.GreatestFrequency.{greatest_of_shown, shown_hits}
use Rattle.chew_layers.specs.Visible.{visible_rows}
use Rattle.chew_layers.proofs.Visible.{visible_shown}

-- the frequencies of the hits that are shown are those of the rows
freqs_shown : (at : Interval) (rows : List Row) → map (λ (h : Hit). h.freq) (shown_hits (map (hit_of at) rows)) ≡ map (λ (r : Row). r.freq) (shown_rows rows)
freqs_shown at [] = refl
freqs_shown at (row ∷ rows) = by (not (is_hidden row)) (freqs_shown at rows)
  where
    by : (b : Bool) → map (λ (h : Hit). h.freq) (shown_hits (map (hit_of at) rows)) ≡ map (λ (r : Row). r.freq) (shown_rows rows)
        → map (λ (h : Hit). h.freq) (cond b (hit_of at row ∷ shown_hits (map (hit_of at) rows)) (shown_hits (map (hit_of at) rows)))
        ≡ map (λ (r : Row). r.freq) (cond b (row ∷ shown_rows rows) (shown_rows rows))
    by true later = ap (λ (l : List ℕ). row.freq ∷ l) later
    by false later = later

-- the greatest frequency of the rows that are shown, from one on
abbrev most_from : ℕ → List Row → ℕ
most_from most rows = fold max most (map (λ (r : Row). r.freq) (shown_rows rows))

-- by the first row
abbrev raised : Row → ℕ → ℕ
raised row most = cond (not (is_hidden row)) (max most row.freq) most

most_first : (most : ℕ) (row : Row) (rows : List Row) → most_from most (row ∷ rows) ≡ most_from (raised row most) rows
most_first most row rows = by (not (is_hidden row))
  where
    by : (b : Bool) → fold max most (map (λ (r : Row). r.freq) (cond b (row ∷ shown_rows rows) (shown_rows rows))) ≡ most_from (cond b (max most row.freq) most) rows
    by true = refl
    by false = refl

raised_either : (x y : Row) (most : ℕ) → raised x (raised y most) ≡ raised y (raised x most)
raised_either x y most = by (not (is_hidden x)) (not (is_hidden y))
  where
    by : (a b : Bool) → cond a (max (cond b (max most y.freq) most) x.freq) (cond b (max most y.freq) most) ≡ cond b (max (cond a (max most x.freq) most) y.freq) (cond a (max most x.freq) most)
    by true true = omega arith
    by true false = refl
    by false true = refl
    by false false = refl

most_put : (cmp : Row → Row → Ordering) (most : ℕ) (x : Row) (rows : List Row) → most_from most (put cmp x rows) ≡ most_from most (x ∷ rows)
most_put cmp most x [] = refl
most_put cmp most x (y ∷ rows) = cond_both (is_lt (cmp y x)) (y ∷ put cmp x rows) (x ∷ (y ∷ rows)) (λ l. most_from most l ≡ most_from most (x ∷ (y ∷ rows)))
    (λ _. most_first most y (put cmp x rows) ∙ most_put cmp (raised y most) x rows ∙ most_first (raised y most) x rows
    ∙ ap (λ (n : ℕ). most_from n rows) (raised_either x y most)
    ∙ sym (most_first most x (y ∷ rows) ∙ most_first (raised x most) y rows))
    (λ _. refl)

most_ordered : (cmp : Row → Row → Ordering) (most : ℕ) (rows : List Row) → most_from most (in_order cmp rows) ≡ most_from most rows
most_ordered cmp most [] = refl
most_ordered cmp most (x ∷ rows) =
    most_put cmp most x (in_order cmp rows) ∙ most_first most x (in_order cmp rows) ∙ most_ordered cmp (raised x most) rows ∙ sym (most_first most x rows)

module _ (base : List Row) (frozen fresh : List Marked) (m : is_map base ≡ true) (f : is_layer frozen ≡ true) (g : is_layer fresh ≡ true) where
  -- the greatest frequency of the hits of a key that are shown
  pub most_shown : (key : List ℕ) (at : Interval) (hits : List Hit) → hits ≡ map (hit_of at) (visible_rows base frozen fresh key)
      → greatest_of_shown hits ≡ peak_of (shown_rows (overlay (overlay base frozen) fresh)) key
  most_shown key at hits e =
      let rows = overlay (overlay base frozen) fresh in
      let visible = visible_rows base frozen fresh key in
      ap greatest_of_shown e
      ∙ ap (fold max 0) (freqs_shown at visible)
      ∙ sym (most_ordered shown_cmp 0 visible)
      ∙ ap (most_from 0) (sym (visible_shown base frozen fresh key m f g))
      ∙ most_ordered shown_cmp 0 (rows_under rows key)
      ∙ ap greatest (shown_under key rows)

  -- the hits of an interval, sorted
  pub sorted_hits : (run : List ℕ) (at : Interval) (hits sorted : List Hit) → hits ≡ map (hit_of at) (visible_rows base frozen fresh (codes_at run at))
      → sorted ≡ in_order shown_hit_cmp hits → sorted ≡ hits_at (overlay (overlay base frozen) fresh) run at
  sorted_hits run at hits sorted e o =
      let visible = visible_rows base frozen fresh (codes_at run at) in
      o ∙ ap (in_order shown_hit_cmp) e
      ∙ in_order_map (hit_of at) shown_cmp shown_hit_cmp (λ x y. refl) visible
      ∙ ap (map (hit_of at)) (sym (visible_shown base frozen fresh (codes_at run at) m f g))
