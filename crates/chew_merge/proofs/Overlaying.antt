-- A map under a layer, by the first of its rows and the first of the marks.
use Rattle.std.proofs.Common.{◌≡◌, ℕ, ◌+◌, ◌≤◌, Bool, true, false, List, [], ◌∷◌, ◌++◌, length, not, refl, ap, ap₂, sym, ◌∙◌, Ordering, Less, Equal, Greater, is_lt, is_some, length-append, Option, None, arith}
use Rattle.std.specs.List.{list_all, filter}
use Rattle.std.specs.Option.{option_map_or}
use Rattle.std.proofs.lemmas.Bool.{and_from, and_parts, cond_both, cond-false}
use Rattle.std.proofs.lemmas.List.Folds.{list_all-append}
use Rattle.std.proofs.lemmas.List.Sorted.{length_permutation}
use Rattle.chew_spec_syllable.specs.Row.{Row, image_cmp, is_pair_of}
use Rattle.chew_spec_dictionary.specs.Dictionary.{is_map}
use Rattle.chew_spec_dictionary.specs.Order.{in_order, put}
use Rattle.chew_spec_dictionary.specs.System.{row_of}
use Rattle.chew_spec_dictionary.proofs.ImageOrder.{image_total, is_of_pair, of_pair, tie_is_pair, turned}
use Rattle.chew_spec_dictionary.proofs.Maps.{BelowAll, absent_below, is_less, maps_alike}
use Rattle.chew_spec_dictionary.proofs.Order.{order_permutes}
use Rattle.chew_spec_dictionary.proofs.Pairs.{found_first, found_later}
use Rattle.chew_spec_layers.specs.Mark.{Mark, Live, Grave, Marked, is_layer, is_mark_of, mark_of, marked_cmp, row_of_mark}
use Rattle.chew_spec_layers.specs.Overlay.{live_rows, overlay, says_over, unmarked_rows}
use Rattle.chew_spec_layers.proofs.Marks.{BelowMarks, absent_mark, mark_first, mark_later, of_mark, place}
use Rattle.chew_spec_layers.proofs.Overlays.{overlay_map, overlay_marked, overlay_says, overlay_unmarked}
use Rattle.chew_merge.specs.Rest.{before, first_cmp}

-- a test that all pass once they are in order
all_put : (test : Row → Bool) (cmp : Row → Row → Ordering) (row : Row) (rows : List Row) → test row ≡ true → list_all test rows ≡ true → list_all test (put cmp row rows) ≡ true
all_put test cmp row [] t a = and_from _ _ t refl
all_put test cmp row (first ∷ rest) t a =
    let both = and_parts (test first) (list_all test rest) a in
    let later = all_put test cmp row rest t both.1 in
    cond_both (is_lt (cmp first row)) (first ∷ put cmp row rest) (row ∷ (first ∷ rest)) (λ l. list_all test l ≡ true) (λ _. and_from _ _ both.0 later) (λ _. and_from _ _ t a)

all_in_order : (test : Row → Bool) (cmp : Row → Row → Ordering) (rows : List Row) → list_all test rows ≡ true → list_all test (in_order cmp rows) ≡ true
all_in_order test cmp [] a = refl
all_in_order test cmp (row ∷ rows) a =
    let both = and_parts (test row) (list_all test rows) a in
    all_put test cmp row (in_order cmp rows) both.0 (all_in_order test cmp rows both.1)

-- a test that all pass, as those do that another picks
all_picked : (test pick : Row → Bool) (rows : List Row) → list_all test rows ≡ true → list_all test (filter pick rows) ≡ true
all_picked test pick [] a = refl
all_picked test pick (row ∷ rows) a =
    let both = and_parts (test row) (list_all test rows) a in
    let later = all_picked test pick rows both.1 in
    cond_both (pick row) (row ∷ filter pick rows) (filter pick rows) (λ l. list_all test l ≡ true) (λ _. and_from _ _ both.0 later) (λ _. later)

-- a row below marks is below the rows of the live ones
below_live : (row : Row) (marks : List Marked) → list_all (λ later. is_lt (image_cmp row (place later))) marks ≡ true → BelowAll row (live_rows marks)
below_live row [] b = refl
below_live row (m ∷ marks) b =
    let both = and_parts (is_lt (image_cmp row (place m))) (list_all (λ later. is_lt (image_cmp row (place later))) marks) b in
    by m.mark refl both.0 (below_live row marks both.1)
  where
    by : (mark : Mark) → m.mark ≡ mark → is_lt (image_cmp row (place m)) ≡ true → BelowAll row (live_rows marks) → BelowAll row (live_rows (m ∷ marks))
    by (Live freq time) k first later = rw k (and_from _ _ first later)
    by Grave k first later = rw k later

-- a row that is below the rows and the marks is below what they give together
below_overlay : (row : Row) (rows : List Row) (marks : List Marked) → BelowAll row rows → BelowAll row (live_rows marks) → BelowAll row (overlay rows marks)
unfolding overlay
below_overlay row rows marks b l =
    all_in_order (λ later. is_lt (image_cmp row later)) image_cmp (unmarked_rows rows marks ++ live_rows marks)
    (list_all-append (λ later. is_lt (image_cmp row later)) (unmarked_rows rows marks) (live_rows marks)
    ∙ and_from _ _ (all_picked (λ later. is_lt (image_cmp row later)) (λ row. not (is_some (mark_of marks row.key row.phrase))) rows b) l)

-- a row below one that is below others is below those
further : {X : Type 0} (rank : X → Row) (low first : Row) (rest : List X) → image_cmp low first ≡ Less → list_all (λ x. is_lt (image_cmp first (rank x))) rest ≡ true
    → list_all (λ x. is_lt (image_cmp low (rank x))) rest ≡ true
further rank low first [] l b = refl
further rank low first (x ∷ xs) l b =
    let both = and_parts (is_lt (image_cmp first (rank x))) (list_all (λ x. is_lt (image_cmp first (rank x))) xs) b in
    and_from _ _ (ap is_lt (image_total.trans low first (rank x) l (is_less _ both.0))) (further rank low first xs l both.1)

-- a row below the first mark is below them all
below_marks : (row : Row) (m : Marked) (marks : List Marked) → image_cmp row (place m) ≡ Less → is_layer (m ∷ marks) ≡ true → list_all (λ later. is_lt (image_cmp row (place later))) (m ∷ marks) ≡ true
below_marks row m marks l layer =
    let both = and_parts (list_all (λ later. is_lt (marked_cmp m later)) marks) (is_layer marks) layer in
    and_from _ _ (ap is_lt l) (further place row (place m) marks l both.0)

-- a mark that the first row is above is below all rows
mark_below : (rows : List Row) (m : Marked) → is_map rows ≡ true → first_cmp rows m ≡ Greater → BelowAll (place m) rows
mark_below [] m map g = refl
mark_below (row ∷ rows) m map g =
    let both = and_parts (list_all (λ later. is_lt (image_cmp row later)) rows) (is_map rows) map in
    let less = turned row (place m) g in
    and_from _ _ (ap is_lt less) (further (λ (later : Row). later) (place m) row rows less both.0)

-- where the first row is below the first mark, it comes first
pub row_comes_first : (row : Row) (rows : List Row) (m : Marked) (marks : List Marked) → is_map (row ∷ rows) ≡ true → is_layer (m ∷ marks) ≡ true → first_cmp (row ∷ rows) m ≡ Less
    → overlay (row ∷ rows) (m ∷ marks) ≡ row ∷ overlay rows (m ∷ marks)
row_comes_first row rows m marks map layer less =
    let both = and_parts (list_all (λ later. is_lt (image_cmp row later)) rows) (is_map rows) map in
    let below = below_marks row m marks less layer in
    maps_alike (overlay (row ∷ rows) (m ∷ marks)) (row ∷ overlay rows (m ∷ marks))
    (overlay_map (row ∷ rows) (m ∷ marks) map layer)
    (and_from _ _ (below_overlay row rows (m ∷ marks) both.0 (below_live row (m ∷ marks) below)) (overlay_map rows (m ∷ marks) both.1 layer))
    (λ key phrase. by key phrase (is_pair_of key phrase row) refl both.1 below)
  where
    own : Marked
    own = record { key = row.key; phrase = row.phrase; mark = Grave }

    by : (key phrase : List ℕ) (b : Bool) → is_pair_of key phrase row ≡ b → is_map rows ≡ true → BelowMarks own (m ∷ marks)
        → row_of (overlay (row ∷ rows) (m ∷ marks)) key phrase ≡ row_of (row ∷ overlay rows (m ∷ marks)) key phrase
    by key phrase true t rest below =
        let same = of_pair key phrase row t in
        let none : mark_of (m ∷ marks) key phrase ≡ None = ap₂ (mark_of (m ∷ marks)) (sym same.0) (sym same.1) ∙ absent_mark own (m ∷ marks) below in
        overlay_unmarked (row ∷ rows) (m ∷ marks) key phrase map layer none
        ∙ found_first key phrase row rows t
        ∙ sym (found_first key phrase row (overlay rows (m ∷ marks)) t)
    by key phrase false f rest below =
        overlay_says (row ∷ rows) (m ∷ marks) key phrase map layer
        ∙ ap (says_over (m ∷ marks) key phrase) (found_later key phrase row rows f)
        ∙ sym (overlay_says rows (m ∷ marks) key phrase rest layer)
        ∙ sym (found_later key phrase row (overlay rows (m ∷ marks)) f)

-- a row whose pair has a mark isn't among the others
pub row_is_hidden : (row : Row) (rows : List Row) (m : Marked) (marks : List Marked) → first_cmp (row ∷ rows) m ≡ Equal → overlay (row ∷ rows) (m ∷ marks) ≡ overlay rows (m ∷ marks)
unfolding overlay
row_is_hidden row rows m marks tie =
    let same = tie_is_pair row (place m) tie in
    let found = mark_first row.key row.phrase m marks (is_of_pair row.key row.phrase (place m) (sym same.0) (sym same.1)) in
    ap (λ (l : List Row). in_order image_cmp (l ++ live_rows (m ∷ marks))) (cond-false _ _ _ (ap (λ (o : Option Mark). not (is_some o)) found))

-- where the first mark is below all rows, the row that it gives its pair comes first, if there is one
pub mark_comes_first : (rows : List Row) (m : Marked) (marks : List Marked) → is_map rows ≡ true → is_layer (m ∷ marks) ≡ true → first_cmp rows m ≡ Greater
    → overlay rows (m ∷ marks) ≡ before (row_of_mark m.key m.phrase m.mark) (overlay rows marks)
mark_comes_first rows m marks map layer greater =
    let both = and_parts (list_all (λ later. is_lt (marked_cmp m later)) marks) (is_layer marks) layer in
    let below = mark_below rows m map greater in
    maps_alike (overlay rows (m ∷ marks)) (before (row_of_mark m.key m.phrase m.mark) (overlay rows marks))
    (overlay_map rows (m ∷ marks) map layer)
    (is_map_before m.mark below both.0 both.1)
    (λ key phrase. by key phrase (is_mark_of key phrase m) refl below both.0 both.1)
  where
    is_map_before : (mark : Mark) → BelowAll (place m) rows → BelowMarks m marks → is_layer marks ≡ true → is_map (before (row_of_mark m.key m.phrase mark) (overlay rows marks)) ≡ true
    is_map_before (Live freq time) below later rest = and_from _ _ (below_overlay (place m) rows marks below (below_live (place m) marks later)) (overlay_map rows marks map rest)
    is_map_before Grave below later rest = overlay_map rows marks map rest

    own : (mark : Mark) (key phrase : List ℕ) → is_mark_of key phrase m ≡ true → row_of (overlay rows marks) key phrase ≡ None → row_of (before (row_of_mark m.key m.phrase mark) (overlay rows marks)) key phrase ≡ row_of_mark m.key m.phrase mark
    own (Live freq time) key phrase t none = found_first key phrase (record { key = m.key; phrase = m.phrase; freq = freq; time = time }) (overlay rows marks) t
    own Grave key phrase t none = none

    other : (mark : Mark) (key phrase : List ℕ) → is_mark_of key phrase m ≡ false → row_of (before (row_of_mark m.key m.phrase mark) (overlay rows marks)) key phrase ≡ row_of (overlay rows marks) key phrase
    other (Live freq time) key phrase f = found_later key phrase (record { key = m.key; phrase = m.phrase; freq = freq; time = time }) (overlay rows marks) f
    other Grave key phrase f = refl

    by : (key phrase : List ℕ) (b : Bool) → is_mark_of key phrase m ≡ b → BelowAll (place m) rows → BelowMarks m marks → is_layer marks ≡ true
        → row_of (overlay rows (m ∷ marks)) key phrase ≡ row_of (before (row_of_mark m.key m.phrase m.mark) (overlay rows marks)) key phrase
    by key phrase true t below later rest =
        let same = of_mark key phrase m t in
        let none : row_of (overlay rows marks) m.key m.phrase ≡ None =
        overlay_unmarked rows marks m.key m.phrase map rest (absent_mark m marks later) ∙ absent_below (place m) rows below in
        overlay_marked rows (m ∷ marks) key phrase m.mark map layer (mark_first key phrase m marks t)
        ∙ ap₂ (λ (k p : List ℕ). row_of_mark k p m.mark) (sym same.0) (sym same.1)
        ∙ sym (own m.mark key phrase t (ap₂ (row_of (overlay rows marks)) (sym same.0) (sym same.1) ∙ none))
    by key phrase false f below later rest =
        overlay_says rows (m ∷ marks) key phrase map layer
        ∙ ap (λ (o : Option Mark). says o key phrase) (mark_later key phrase m marks f)
        ∙ sym (overlay_says rows marks key phrase map rest)
        ∙ sym (other m.mark key phrase f)
      where
        says : Option Mark → List ℕ → List ℕ → Option Row
        says o key phrase = option_map_or (row_of_mark key phrase) o (row_of rows key phrase)

-- what a test picks is no longer than the whole, nor are the rows of live marks
picked_length : (pick : Row → Bool) (rows : List Row) → length (filter pick rows) ≤ length rows
picked_length pick [] = omega arith
picked_length pick (row ∷ rows) =
    let later = picked_length pick rows in
    cond_both (pick row) (row ∷ filter pick rows) (filter pick rows) (λ l. length l ≤ length (row ∷ rows)) (λ _. omega (arith, later)) (λ _. omega (arith, later))

live_length : (marks : List Marked) → length (live_rows marks) ≤ length marks
live_length [] = omega arith
live_length (m ∷ marks) = by m.mark refl (live_length marks)
  where
    by : (mark : Mark) → m.mark ≡ mark → length (live_rows marks) ≤ length marks → length (live_rows (m ∷ marks)) ≤ length (m ∷ marks)
    by (Live freq time) k later = rw k (omega (arith, later))
    by Grave k later = rw k (omega (arith, later))

-- a map under a layer has no more rows than there are rows and marks
pub overlay_length : (rows : List Row) (marks : List Marked) → length (overlay rows marks) ≤ length rows + length marks
unfolding overlay
overlay_length rows marks =
    let all = length_permutation (unmarked_rows rows marks ++ live_rows marks) (overlay rows marks) (order_permutes image_cmp (unmarked_rows rows marks ++ live_rows marks)) in
    let joined = length-append (unmarked_rows rows marks) (live_rows marks) in
    let first = picked_length (λ row. not (is_some (mark_of marks row.key row.phrase))) rows in
    let second = live_length marks in
    omega (arith, all, joined, first, second)
