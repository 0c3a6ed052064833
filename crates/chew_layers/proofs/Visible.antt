-- The rows of a key under two layers are those that no newer layer hides.
use Rattle.std.proofs.Common.{◌≡◌, ℕ, Bool, cond, true, false, List, [], ◌∷◌, ◌++◌, not, refl, ap, ap₂, sym, ◌∙◌, subst, is_some, IsPermutation}
use Rattle.std.specs.List.{cons_option, filter}
use Rattle.std.proofs.lemmas.Bool.{cond-true, cond-false}
use Rattle.std.proofs.lemmas.List.Elements.{filter-append}
use Rattle.std.proofs.lemmas.List.Sorted.{IsPermutation-trans, IsPermutation-sym, IsPermutation-append_left}
use Rattle.chew_spec_syllable.specs.Row.{Row, image_cmp}
use Rattle.chew_spec_dictionary.specs.Dictionary.{is_map}
use Rattle.chew_spec_dictionary.specs.Look.{shown_cmp}
use Rattle.chew_spec_dictionary.specs.Order.{in_order}
use Rattle.chew_spec_dictionary.specs.System.{is_under, rows_under}
use Rattle.chew_spec_dictionary.proofs.Order.{order_permutes, order_sorted}
use Rattle.chew_spec_dictionary.proofs.Rows.{map_has_no_pair_twice, rows_of_map, shown_sorted, shown_total}
use Rattle.chew_spec_layers.specs.Mark.{Mark, Live, Grave, Marked, is_layer, mark_of, row_of_mark}
use Rattle.chew_spec_layers.specs.Overlay.{overlay, unmarked_rows, live_rows}
use Rattle.chew_spec_layers.proofs.Overlays.{overlay_map}
use Rattle.chew_buffer.specs.Marks.{is_mark_under, marks_under}
use Rattle.chew_layers.specs.Visible.{base_rows, marked_rows, visible_rows}
use Rattle.chew_layers.proofs.Picked.{filter_swap, picked_ordered, picked_twice}

-- the rows of a key among those of live marks are those of its marks
pub under_live : (key : List ℕ) (marks : List Marked) → rows_under (live_rows marks) key ≡ live_rows (marks_under marks key)
under_live key [] = refl
under_live key (m ∷ marks) = by m.mark (is_mark_under key m) refl (under_live key marks)
  where
    by : (mark : Mark) (b : Bool) → is_mark_under key m ≡ b → rows_under (live_rows marks) key ≡ live_rows (marks_under marks key)
        → rows_under (cons_option (row_of_mark m.key m.phrase mark) (live_rows marks)) key
        ≡ live_rows (cond b (record { key = m.key; phrase = m.phrase; mark = mark } ∷ marks_under marks key) (marks_under marks key))
    by (Live freq time) true b later = cond-true _ _ _ b ∙ ap (λ (l : List Row). record { key = m.key; phrase = m.phrase; freq = freq; time = time } ∷ l) later
    by (Live freq time) false b later = cond-false _ _ _ b ∙ later
    by Grave true b later = later
    by Grave false b later = later

-- the test that a layer has no mark for a row's pair
abbrev pub is_unmarked : List Marked → Row → Bool
is_unmarked marks row = not (is_some (mark_of marks row.key row.phrase))

-- the rows of a key under two layers, and those that are visible, are the same, in some order
pub visible_permutes : (base : List Row) (frozen fresh : List Marked) (key : List ℕ) → is_map base ≡ true
    → IsPermutation (rows_under (overlay (overlay base frozen) fresh) key) (visible_rows base frozen fresh key)
unfolding overlay
visible_permutes base frozen fresh key m =
    let below = unmarked_rows base frozen ++ live_rows frozen in
    let over = unmarked_rows (in_order image_cmp below) fresh ++ live_rows fresh in
    let left : filter (is_under key) (filter (is_unmarked fresh) below) ≡ base_rows base frozen fresh key ++ marked_rows frozen fresh key =
    ap (filter (is_under key)) (filter-append (is_unmarked fresh) (unmarked_rows base frozen) (live_rows frozen))
    ∙ filter-append (is_under key) (filter (is_unmarked fresh) (unmarked_rows base frozen)) (filter (is_unmarked fresh) (live_rows frozen))
    ∙ ap₂ (λ (a b : List Row). a ++ b)
    (filter_swap (is_under key) (is_unmarked fresh) (unmarked_rows base frozen)
    ∙ ap (filter (is_unmarked fresh)) (filter_swap (is_under key) (is_unmarked frozen) base ∙ ap (filter (is_unmarked frozen)) (sym (rows_of_map base key m))))
    (filter_swap (is_under key) (is_unmarked fresh) (live_rows frozen) ∙ ap (filter (is_unmarked fresh)) (under_live key frozen)) in
    let split : filter (is_under key) over ≡ filter (is_under key) (filter (is_unmarked fresh) (in_order image_cmp below)) ++ live_rows (marks_under fresh key) =
    filter-append (is_under key) (unmarked_rows (in_order image_cmp below) fresh) (live_rows fresh)
    ∙ ap (λ (l : List Row). filter (is_under key) (filter (is_unmarked fresh) (in_order image_cmp below)) ++ l) (under_live key fresh) in
    IsPermutation-sym (visible_rows base frozen fresh key) (rows_under (in_order image_cmp over) key)
    (IsPermutation-trans _ _ _
    (subst (λ (l : List Row). IsPermutation (l ++ live_rows (marks_under fresh key)) (filter (is_under key) over)) left
    (subst (IsPermutation (filter (is_under key) (filter (is_unmarked fresh) below) ++ live_rows (marks_under fresh key))) (sym split)
    (IsPermutation-append_left (live_rows (marks_under fresh key)) _ _ (picked_twice image_cmp (is_under key) (is_unmarked fresh) below))))
    (picked_ordered image_cmp (is_under key) over))

-- so they are shown in the same order
pub visible_shown : (base : List Row) (frozen fresh : List Marked) (key : List ℕ) → is_map base ≡ true → is_layer frozen ≡ true → is_layer fresh ≡ true
    → in_order shown_cmp (rows_under (overlay (overlay base frozen) fresh) key) ≡ in_order shown_cmp (visible_rows base frozen fresh key)
visible_shown base frozen fresh key m f g =
    let visible = visible_rows base frozen fresh key in
    let rows = overlay (overlay base frozen) fresh in
    shown_sorted rows key (in_order shown_cmp visible) (map_has_no_pair_twice rows (overlay_map (overlay base frozen) fresh (overlay_map base frozen m f) g))
    (IsPermutation-trans _ _ _ (visible_permutes base frozen fresh key m) (order_permutes shown_cmp visible))
    (order_sorted shown_cmp shown_total visible)
