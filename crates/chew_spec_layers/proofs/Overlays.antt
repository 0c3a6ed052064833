-- What a map says of a pair where a layer lies over it.
use Rattle.std.proofs.Common.{◌≡◌, ℕ, Bool, true, false, List, [], ◌∷◌, ◌++◌, not, refl, ap, ap₂, sym, ◌∙◌, cond, ⊎_elim, ◌⊎◌, inl, inr, is_lt, is_some, Option, Some, None, true≢false}
use Rattle.std.specs.List.{list_all, list_any}
use Rattle.std.proofs.lemmas.Bool.{cond_both, and_parts, and_from, or_parts, or_from, not-true}
use Rattle.chew_spec_syllable.specs.Row.{Row, is_pair_of, no_pair_twice}
use Rattle.chew_spec_dictionary.specs.System.{row_of}
use Rattle.chew_spec_dictionary.specs.Dictionary.{is_map}
use Rattle.chew_spec_dictionary.proofs.ImageOrder.{of_pair}
use Rattle.chew_spec_dictionary.proofs.Pairs.{found_first, found_later}
use Rattle.chew_spec_dictionary.proofs.Learning.{held_or_not}
use Rattle.chew_spec_dictionary.proofs.Hiding.{some_not_none}
use Rattle.chew_spec_dictionary.proofs.Maps.{maps_alike}
use Rattle.chew_spec_dictionary.proofs.Rows.{map_has_no_pair_twice}
use Rattle.chew_spec_dictionary.proofs.Once.{once_kept, map_of_rows, map_answers}
use Rattle.chew_spec_layers.specs.Mark.{Mark, Live, Grave, Marked, is_mark_of, marked_cmp, is_layer, mark_of, row_of_mark}
use Rattle.chew_spec_layers.specs.Overlay.{overlay, unmarked_rows, live_rows, says_over}
use Rattle.chew_spec_layers.proofs.Marks.{BelowMarks, of_mark, mark_first, mark_later, mark_not_none, absent_mark}

-- a mark or none
pub marked_or_not : (o : Option Mark) → ((mark : Mark) × (o ≡ Some mark)) ⊎ (o ≡ None)
marked_or_not None = inr refl
marked_or_not (Some mark) = inl (mark, refl)

-- what a test for something says of nothing
pub none_where : (o : Option Mark) → is_some o ≡ false → o ≡ None
none_where None e = refl
none_where (Some mark) e = absurd (true≢false e)

-- the row of a pair in two lists of rows, one after the other
row_in_first : (xs ys : List Row) (key phrase : List ℕ) (row : Row) → row_of xs key phrase ≡ Some row → row_of (xs ++ ys) key phrase ≡ Some row
row_in_first [] ys key phrase row e = absurd (some_not_none row (sym e))
row_in_first (x ∷ xs) ys key phrase row e = by (is_pair_of key phrase x) refl (row_in_first xs ys key phrase row)
  where
    by : (b : Bool) → is_pair_of key phrase x ≡ b → (row_of xs key phrase ≡ Some row → row_of (xs ++ ys) key phrase ≡ Some row) → row_of (x ∷ (xs ++ ys)) key phrase ≡ Some row
    by true t later = found_first key phrase x (xs ++ ys) t ∙ sym (found_first key phrase x xs t) ∙ e
    by false f later = found_later key phrase x (xs ++ ys) f ∙ later (sym (found_later key phrase x xs f) ∙ e)

row_in_second : (xs ys : List Row) (key phrase : List ℕ) → row_of xs key phrase ≡ None → row_of (xs ++ ys) key phrase ≡ row_of ys key phrase
row_in_second [] ys key phrase e = refl
row_in_second (x ∷ xs) ys key phrase e = by (is_pair_of key phrase x) refl (row_in_second xs ys key phrase)
  where
    by : (b : Bool) → is_pair_of key phrase x ≡ b → (row_of xs key phrase ≡ None → row_of (xs ++ ys) key phrase ≡ row_of ys key phrase) → row_of (x ∷ (xs ++ ys)) key phrase ≡ row_of ys key phrase
    by true t later = absurd (some_not_none x (sym (found_first key phrase x xs t) ∙ e))
    by false f later = found_later key phrase x (xs ++ ys) f ∙ later (sym (found_later key phrase x xs f) ∙ e)

-- where no row of a pair is found, none is of the pair
none_any : (key phrase : List ℕ) (rows : List Row) → row_of rows key phrase ≡ None → list_any (is_pair_of key phrase) rows ≡ false
none_any key phrase [] e = refl
none_any key phrase (row ∷ rows) e = by (is_pair_of key phrase row) refl (none_any key phrase rows)
  where
    by : (b : Bool) → is_pair_of key phrase row ≡ b → (row_of rows key phrase ≡ None → list_any (is_pair_of key phrase) rows ≡ false) → list_any (is_pair_of key phrase) (row ∷ rows) ≡ false
    by true t later = absurd (some_not_none row (sym (found_first key phrase row rows t) ∙ e))
    by false f later = or_from _ _ f (later (sym (found_later key phrase row rows f) ∙ e))

-- a test that none passes in two lists, one after the other
none_joined : (test : Row → Bool) (xs ys : List Row) → list_any test xs ≡ false → list_any test ys ≡ false → list_any test (xs ++ ys) ≡ false
none_joined test [] ys nx ny = ny
none_joined test (x ∷ xs) ys nx ny = let both = or_parts (test x) (list_any test xs) nx in or_from _ _ both.0 (none_joined test xs ys both.1 ny)

-- the row's pair is not among others
abbrev apart_from : List Row → Row → Bool
apart_from ys row = not (list_any (is_pair_of row.key row.phrase) ys)

-- two lists with no pair twice, and with no pair in both
once_joined : (xs ys : List Row) → no_pair_twice xs ≡ true → no_pair_twice ys ≡ true → list_all (apart_from ys) xs ≡ true → no_pair_twice (xs ++ ys) ≡ true
once_joined [] ys nx ny a = ny
once_joined (x ∷ xs) ys nx ny a =
    let both = and_parts (not (list_any (is_pair_of x.key x.phrase) xs)) (no_pair_twice xs) nx in
    let other = and_parts (apart_from ys x) (list_all (apart_from ys) xs) a in
    and_from _ _ (ap not (none_joined (is_pair_of x.key x.phrase) xs ys (not-true _ both.0) (not-true _ other.0))) (once_joined xs ys both.1 ny other.1)

-- rows without a mark are of other pairs than rows that only marked pairs have
unmarked_apart : (rows : List Row) (marks : List Marked) (ys : List Row) → ((key phrase : List ℕ) → mark_of marks key phrase ≡ None → row_of ys key phrase ≡ None) → list_all (apart_from ys) (unmarked_rows rows marks) ≡ true
unmarked_apart [] marks ys other = refl
unmarked_apart (row ∷ rows) marks ys other =
    let later = unmarked_apart rows marks ys other in
    cond_both (not (is_some (mark_of marks row.key row.phrase))) (row ∷ unmarked_rows rows marks) (unmarked_rows rows marks) (λ l. list_all (apart_from ys) l ≡ true)
    (λ t. and_from _ _ (ap not (none_any row.key row.phrase ys (other row.key row.phrase (none_where _ (not-true _ t))))) later)
    (λ _. later)

-- a pair with a mark is not among the rows without one
unmarked_gone : (rows : List Row) (marks : List Marked) (key phrase : List ℕ) → is_some (mark_of marks key phrase) ≡ true → row_of (unmarked_rows rows marks) key phrase ≡ None
unmarked_gone [] marks key phrase e = refl
unmarked_gone (row ∷ rows) marks key phrase e =
    let later = unmarked_gone rows marks key phrase e in
    cond_both (not (is_some (mark_of marks row.key row.phrase))) (row ∷ unmarked_rows rows marks) (unmarked_rows rows marks) (λ l. row_of l key phrase ≡ None)
    (λ t. by (is_pair_of key phrase row) refl t later)
    (λ _. later)
  where
    by : (b : Bool) → is_pair_of key phrase row ≡ b → not (is_some (mark_of marks row.key row.phrase)) ≡ true → row_of (unmarked_rows rows marks) key phrase ≡ None → row_of (row ∷ unmarked_rows rows marks) key phrase ≡ None
    by true p t later = let same = of_pair key phrase row p in absurd (true≢false (sym e ∙ ap₂ (λ (k q : List ℕ). is_some (mark_of marks k q)) (sym same.0) (sym same.1) ∙ not-true _ t))
    by false p t later = found_later key phrase row (unmarked_rows rows marks) p ∙ later

-- a pair without a mark has its row among the rows without one
unmarked_stays : (rows : List Row) (marks : List Marked) (key phrase : List ℕ) → mark_of marks key phrase ≡ None → row_of (unmarked_rows rows marks) key phrase ≡ row_of rows key phrase
unmarked_stays [] marks key phrase e = refl
unmarked_stays (row ∷ rows) marks key phrase e =
    let later = unmarked_stays rows marks key phrase e in
    cond_both (not (is_some (mark_of marks row.key row.phrase))) (row ∷ unmarked_rows rows marks) (unmarked_rows rows marks) (λ l. row_of l key phrase ≡ row_of (row ∷ rows) key phrase)
    (λ _. ap (cond (is_pair_of key phrase row) (Some row)) later)
    (λ f. by (is_pair_of key phrase row) refl f later)
  where
    by : (b : Bool) → is_pair_of key phrase row ≡ b → not (is_some (mark_of marks row.key row.phrase)) ≡ false → row_of (unmarked_rows rows marks) key phrase ≡ row_of rows key phrase → row_of (unmarked_rows rows marks) key phrase ≡ row_of (row ∷ rows) key phrase
    by true p f later =
        let same = of_pair key phrase row p in
        let none : mark_of marks row.key row.phrase ≡ None = ap₂ (mark_of marks) same.0 same.1 ∙ e in
        absurd (true≢false (sym (ap (λ (o : Option Mark). not (is_some o)) none) ∙ f))
    by false p f later = later ∙ sym (found_later key phrase row rows p)

-- a pair without a mark has no live one
live_none : (marks : List Marked) (key phrase : List ℕ) → mark_of marks key phrase ≡ None → row_of (live_rows marks) key phrase ≡ None
live_none [] key phrase e = refl
live_none (m ∷ marks) key phrase e = by (is_mark_of key phrase m) refl (live_none marks key phrase)
  where
    behind : (mark : Mark) → m.mark ≡ mark → is_mark_of key phrase m ≡ false → row_of (live_rows marks) key phrase ≡ None → row_of (live_rows (m ∷ marks)) key phrase ≡ None
    behind (Live freq time) k f later = rw k (found_later key phrase (record { key = m.key; phrase = m.phrase; freq = freq; time = time }) (live_rows marks) f ∙ later)
    behind Grave k f later = rw k later

    by : (b : Bool) → is_mark_of key phrase m ≡ b → (mark_of marks key phrase ≡ None → row_of (live_rows marks) key phrase ≡ None) → row_of (live_rows (m ∷ marks)) key phrase ≡ None
    by true t later = absurd (mark_not_none m.mark (sym (mark_first key phrase m marks t) ∙ e))
    by false f later = behind m.mark refl f (later (sym (mark_later key phrase m marks f) ∙ e))

-- a pair with a mark has the row that this gives it
live_some : (marks : List Marked) (key phrase : List ℕ) (mark : Mark) → is_layer marks ≡ true → mark_of marks key phrase ≡ Some mark → row_of (live_rows marks) key phrase ≡ row_of_mark key phrase mark
live_some [] key phrase mark l e = absurd (mark_not_none mark (sym e))
live_some (m ∷ marks) key phrase mark l e = by (is_mark_of key phrase m) refl (live_some marks key phrase mark both.1)
  where
    both : (BelowMarks m marks) × (is_layer marks ≡ true)
    both = and_parts (list_all (λ later. is_lt (marked_cmp m later)) marks) (is_layer marks) l

    here : (own : Mark) → m.mark ≡ own → is_mark_of key phrase m ≡ true → row_of (live_rows (m ∷ marks)) key phrase ≡ row_of_mark m.key m.phrase own
    here (Live freq time) k t = rw k (found_first key phrase (record { key = m.key; phrase = m.phrase; freq = freq; time = time }) (live_rows marks) t)
    here Grave k t =
        let same = of_mark key phrase m t in
        rw k (ap₂ (row_of (live_rows marks)) (sym same.0) (sym same.1) ∙ live_none marks m.key m.phrase (absent_mark m marks both.0))

    behind : (own : Mark) → m.mark ≡ own → is_mark_of key phrase m ≡ false → row_of (live_rows (m ∷ marks)) key phrase ≡ row_of (live_rows marks) key phrase
    behind (Live freq time) k f = rw k (found_later key phrase (record { key = m.key; phrase = m.phrase; freq = freq; time = time }) (live_rows marks) f)
    behind Grave k f = rw k refl

    by : (b : Bool) → is_mark_of key phrase m ≡ b → (mark_of marks key phrase ≡ Some mark → row_of (live_rows marks) key phrase ≡ row_of_mark key phrase mark) → row_of (live_rows (m ∷ marks)) key phrase ≡ row_of_mark key phrase mark
    by true t later =
        let same = of_mark key phrase m t in
        let one : Some m.mark ≡ Some mark = sym (mark_first key phrase m marks t) ∙ e in
        let marks_same : m.mark ≡ mark = cc in
        here m.mark refl t ∙ ap₂ (λ (k p : List ℕ). row_of_mark k p m.mark) same.0 same.1 ∙ ap (row_of_mark key phrase) marks_same
    by false f later = behind m.mark refl f ∙ later (sym (mark_later key phrase m marks f) ∙ e)

-- the rows of a layer's live marks have no pair twice
live_once : (marks : List Marked) → is_layer marks ≡ true → no_pair_twice (live_rows marks) ≡ true
live_once [] l = refl
live_once (m ∷ marks) l = by m.mark refl (live_once marks both.1)
  where
    both : (BelowMarks m marks) × (is_layer marks ≡ true)
    both = and_parts (list_all (λ later. is_lt (marked_cmp m later)) marks) (is_layer marks) l

    by : (own : Mark) → m.mark ≡ own → no_pair_twice (live_rows marks) ≡ true → no_pair_twice (live_rows (m ∷ marks)) ≡ true
    by (Live freq time) k later = rw k (and_from _ _ (ap not (none_any m.key m.phrase (live_rows marks) (live_none marks m.key m.phrase (absent_mark m marks both.0)))) later)
    by Grave k later = rw k later

-- the rows of an overlay have no pair twice, before they are put in order
together_once : (rows : List Row) (marks : List Marked) → is_map rows ≡ true → is_layer marks ≡ true → no_pair_twice (unmarked_rows rows marks ++ live_rows marks) ≡ true
together_once rows marks m l =
    once_joined (unmarked_rows rows marks) (live_rows marks)
    (once_kept (λ row. not (is_some (mark_of marks row.key row.phrase))) rows (map_has_no_pair_twice rows m))
    (live_once marks l)
    (unmarked_apart rows marks (live_rows marks) (live_none marks))

-- a layer over a map gives a map
pub overlay_map : (rows : List Row) (marks : List Marked) → is_map rows ≡ true → is_layer marks ≡ true → is_map (overlay rows marks) ≡ true
unfolding overlay
overlay_map rows marks m l = map_of_rows (unmarked_rows rows marks ++ live_rows marks) (together_once rows marks m l)

-- an overlay answers as its rows do before they are put in order
overlay_answers : (rows : List Row) (marks : List Marked) (key phrase : List ℕ) → is_map rows ≡ true → is_layer marks ≡ true → row_of (overlay rows marks) key phrase ≡ row_of (unmarked_rows rows marks ++ live_rows marks) key phrase
unfolding overlay
overlay_answers rows marks key phrase m l = map_answers (unmarked_rows rows marks ++ live_rows marks) key phrase (together_once rows marks m l)

-- a pair with a mark has the row that this gives it
pub overlay_marked : (rows : List Row) (marks : List Marked) (key phrase : List ℕ) (mark : Mark) → is_map rows ≡ true → is_layer marks ≡ true → mark_of marks key phrase ≡ Some mark → row_of (overlay rows marks) key phrase ≡ row_of_mark key phrase mark
overlay_marked rows marks key phrase mark m l e =
    overlay_answers rows marks key phrase m l
    ∙ row_in_second (unmarked_rows rows marks) (live_rows marks) key phrase (unmarked_gone rows marks key phrase (ap is_some e))
    ∙ live_some marks key phrase mark l e

-- a pair without a mark has the row that it had
pub overlay_unmarked : (rows : List Row) (marks : List Marked) (key phrase : List ℕ) → is_map rows ≡ true → is_layer marks ≡ true → mark_of marks key phrase ≡ None → row_of (overlay rows marks) key phrase ≡ row_of rows key phrase
overlay_unmarked rows marks key phrase m l e = overlay_answers rows marks key phrase m l ∙ ⊎_elim
    (λ (h : (row : Row) × (row_of rows key phrase ≡ Some row)). row_in_first (unmarked_rows rows marks) (live_rows marks) key phrase h.0 (unmarked_stays rows marks key phrase e ∙ h.1) ∙ sym h.1)
    (λ (n : row_of rows key phrase ≡ None). row_in_second (unmarked_rows rows marks) (live_rows marks) key phrase (unmarked_stays rows marks key phrase e ∙ n) ∙ live_none marks key phrase e ∙ sym n)
    (held_or_not (row_of rows key phrase))

-- a layer over a map says of each pair what its mark says, or else what the map says
pub overlay_says : (rows : List Row) (marks : List Marked) (key phrase : List ℕ) → is_map rows ≡ true → is_layer marks ≡ true → row_of (overlay rows marks) key phrase ≡ says_over marks key phrase (row_of rows key phrase)
overlay_says rows marks key phrase m l = by (mark_of marks key phrase) refl
  where
    by : (o : Option Mark) → mark_of marks key phrase ≡ o → row_of (overlay rows marks) key phrase ≡ says_over marks key phrase (row_of rows key phrase)
    by (Some mark) e = rw e (overlay_marked rows marks key phrase mark m l e)
    by None e = rw e (overlay_unmarked rows marks key phrase m l e)

-- a layer of nothing changes nothing
pub overlay_nothing : (rows : List Row) → is_map rows ≡ true → overlay rows [] ≡ rows
overlay_nothing rows m = maps_alike (overlay rows []) rows (overlay_map rows [] m refl) m (λ key phrase. overlay_unmarked rows [] key phrase m refl refl)

-- two layers over a map, of which the newer one has a mark for each pair of the older: the older says nothing
pub overlay_covered : (rows : List Row) (older newer : List Marked) → is_map rows ≡ true → is_layer older ≡ true → is_layer newer ≡ true
    → ((key phrase : List ℕ) → mark_of newer key phrase ≡ None → mark_of older key phrase ≡ None) → overlay (overlay rows older) newer ≡ overlay rows newer
overlay_covered rows older newer m o n covers =
    let under = overlay_map rows older m o in
    maps_alike (overlay (overlay rows older) newer) (overlay rows newer) (overlay_map _ newer under n) (overlay_map rows newer m n) (λ key phrase. ⊎_elim
    (λ (h : (mark : Mark) × (mark_of newer key phrase ≡ Some mark)). overlay_marked (overlay rows older) newer key phrase h.0 under n h.1 ∙ sym (overlay_marked rows newer key phrase h.0 m n h.1))
    (λ (none : mark_of newer key phrase ≡ None).
    overlay_unmarked (overlay rows older) newer key phrase under n none ∙ overlay_unmarked rows older key phrase m o (covers key phrase none) ∙ sym (overlay_unmarked rows newer key phrase m n none))
    (marked_or_not (mark_of newer key phrase)))
