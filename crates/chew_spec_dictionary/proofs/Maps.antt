-- A map's rows rise in image order; each change keeps that, and equal look-ups make equal maps.
use Rattle.std.proofs.Common.{◌≡◌, ℕ, Bool, true, false, List, [], ◌∷◌, not, refl, ap, sym, ◌∙◌, subst, ap₂, ⊎_elim, Ordering, Less, Equal, Greater, is_lt, Some, None, true≢false}
use Rattle.std.specs.List.{list_all, filter}
use Rattle.std.proofs.lemmas.Bool.{cond_both, and_parts, and_from, cases_Bool}
use Rattle.chew_spec_syllable.specs.Row.{Row, image_cmp, is_pair_of}
use Rattle.chew_spec_dictionary.specs.HiddenPairs.{hidden_time}
use Rattle.chew_spec_dictionary.specs.System.{row_of}
use Rattle.chew_spec_dictionary.specs.Dictionary.{Dictionary, put_row, is_map, learn, forget, hide, time_of_learn}
use Rattle.chew_spec_dictionary.specs.Call.{Call, Look, Learn, Forget, Hide, Freeze, Install}
use Rattle.chew_spec_dictionary.specs.History.{Point, Entry, answer, after}
use Rattle.chew_spec_dictionary.proofs.ImageOrder.{image_total, by_cases, turned, tie_is_pair, of_pair, is_of_pair, apart}
use Rattle.chew_spec_dictionary.proofs.Pairs.{found_first, found_later}
use Rattle.chew_spec_dictionary.proofs.Learning.{by_learn, by_forget}
use Rattle.chew_spec_dictionary.proofs.Hiding.{by_hidden, some_not_none}

-- a row is below each of these rows
abbrev pub BelowAll : Row → List Row → Type 0
BelowAll row rows = list_all (λ later. is_lt (image_cmp row later)) rows ≡ true

-- a test that says less answered Less
pub is_less : (o : Ordering) → is_lt o ≡ true → o ≡ Less
is_less Less e = refl
is_less Equal e = absurd (true≢false (sym e))
is_less Greater e = absurd (true≢false (sym e))

-- a row below a row that is below others is below those
below_further : (row first : Row) (rest : List Row) → image_cmp row first ≡ Less → BelowAll first rest → BelowAll row rest
below_further row first [] l b = refl
below_further row first (next ∷ rest) l b =
    let both = and_parts (is_lt (image_cmp first next)) _ b in
    and_from _ _ (ap is_lt (image_total.trans row first next l (is_less _ both.0))) (below_further row first rest l both.1)

-- a row that ties with one that is below others is below those
below_tied : (row first : Row) (rest : List Row) → image_cmp row first ≡ Equal → BelowAll first rest → BelowAll row rest
below_tied row first [] t b = refl
below_tied row first (next ∷ rest) t b =
    let both = and_parts (is_lt (image_cmp first next)) _ b in
    and_from _ _ (ap is_lt (image_total.congr row first next t) ∙ both.0) (below_tied row first rest t both.1)

-- a row that is below others and below a row is below them once that is put in
below_put : (low row : Row) (rows : List Row) → image_cmp low row ≡ Less → BelowAll low rows → BelowAll low (put_row row rows)
below_put low row [] l b = and_from _ _ (ap is_lt l) refl
below_put low row (first ∷ rest) l b =
    let both = and_parts (is_lt (image_cmp low first)) (list_all (λ later. is_lt (image_cmp low later)) rest) b in
    let later = below_put low row rest l both.1 in
    by_cases (image_cmp row first) (row ∷ (first ∷ rest)) (row ∷ rest) (first ∷ put_row row rest) (BelowAll low)
    (λ _. and_from _ _ (ap is_lt l) b)
    (λ _. and_from _ _ (ap is_lt l) both.1)
    (λ _. and_from _ _ both.0 later)

-- a row put into a map leaves a map
pub put_keeps : (row : Row) (rows : List Row) → is_map rows ≡ true → is_map (put_row row rows) ≡ true
put_keeps row [] m = refl
put_keeps row (first ∷ rest) m =
    let both = and_parts (list_all (λ later. is_lt (image_cmp first later)) rest) (is_map rest) m in
    let later = put_keeps row rest both.1 in
    by_cases (image_cmp row first) (row ∷ (first ∷ rest)) (row ∷ rest) (first ∷ put_row row rest) (λ rows. is_map rows ≡ true)
    (λ l. and_from _ _ (and_from _ _ (ap is_lt l) (below_further row first rest l both.0)) m)
    (λ t. and_from _ _ (below_tied row first rest t both.0) both.1)
    (λ g. and_from _ _ (below_put first row rest (turned row first g) both.0) later)

-- a row that is below others is below those that a test keeps
below_filter : (low : Row) (test : Row → Bool) (rows : List Row) → BelowAll low rows → BelowAll low (filter test rows)
below_filter low test [] b = refl
below_filter low test (row ∷ rows) b =
    let both = and_parts (is_lt (image_cmp low row)) (list_all (λ later. is_lt (image_cmp low later)) rows) b in
    let later = below_filter low test rows both.1 in
    cond_both (test row) (row ∷ filter test rows) (filter test rows) (BelowAll low) (λ _. and_from _ _ both.0 later) (λ _. later)

-- what a test keeps of a map is a map
pub filter_keeps : (test : Row → Bool) (rows : List Row) → is_map rows ≡ true → is_map (filter test rows) ≡ true
filter_keeps test [] m = refl
filter_keeps test (row ∷ rows) m =
    let both = and_parts (list_all (λ later. is_lt (image_cmp row later)) rows) (is_map rows) m in
    let later = filter_keeps test rows both.1 in
    cond_both (test row) (row ∷ filter test rows) (filter test rows) (λ l. is_map l ≡ true) (λ _. and_from _ _ (below_filter row test rows both.0) later) (λ _. later)

-- a learn keeps a map
pub learn_keeps : (had : Dictionary) (key phrase : List ℕ) (orig peak : ℕ) → is_map had.pairs ≡ true → is_map (learn had key phrase orig peak).left.pairs ≡ true
learn_keeps had key phrase orig peak m = by_learn had key phrase orig peak (λ d. is_map d.pairs ≡ true) m (λ freq. let row : Row = record { key = key; phrase = phrase; freq = freq; time = time_of_learn had } in put_keeps row had.pairs m)

-- a forget keeps a map
pub forget_keeps : (had : Dictionary) (key phrase : List ℕ) → is_map had.pairs ≡ true → is_map (forget had key phrase).left.pairs ≡ true
forget_keeps had key phrase m = by_forget had key phrase (λ o. is_map o.left.pairs ≡ true) (λ _. m) (λ _. filter_keeps (λ row. not (is_pair_of key phrase row)) had.pairs m)

-- a hide keeps a map
pub hide_keeps : (had : Dictionary) (key phrase : List ℕ) → is_map had.pairs ≡ true → is_map (hide had key phrase).left.pairs ≡ true
hide_keeps had key phrase m = by_hidden had key phrase (λ d. is_map d.pairs ≡ true) m (λ freq. let row : Row = record { key = key; phrase = phrase; freq = freq; time = hidden_time } in put_keeps row had.pairs m)

-- every call keeps a map
pub answer_keeps : (p : Point) (call : Call) → is_map p.dictionary.pairs ≡ true → is_map (answer p call).point.dictionary.pairs ≡ true
answer_keeps p (Look run) m = m
answer_keeps p (Learn key phrase orig peak) m = learn_keeps p.dictionary key phrase orig peak m
answer_keeps p (Forget key phrase) m = forget_keeps p.dictionary key phrase m
answer_keeps p (Hide key phrase) m = hide_keeps p.dictionary key phrase m
answer_keeps p Freeze m = m
answer_keeps p (Install number) m = m

-- every history keeps a map
pub after_keeps : (p : Point) (h : List Entry) → is_map p.dictionary.pairs ≡ true → is_map (after p h).dictionary.pairs ≡ true
after_keeps p [] m = m
after_keeps p (e ∷ h) m = after_keeps (answer p e.call).point h (answer_keeps p e.call m)

-- a pair whose row is below all others is not among them
pub absent_below : (row : Row) (rows : List Row) → BelowAll row rows → row_of rows row.key row.phrase ≡ None
absent_below row [] b = refl
absent_below row (first ∷ rest) b =
    let both = and_parts (is_lt (image_cmp row first)) (list_all (λ later. is_lt (image_cmp row later)) rest) b in
    found_later row.key row.phrase first rest (apart row first Less (is_less _ both.0) (λ e. true≢false (ap is_lt e))) ∙ absent_below row rest both.1

-- a look-up through a row of another pair, and through one of the pair
pub absent_of : (key phrase : List ℕ) (row : Row) (rows : List Row) → BelowAll row rows → is_pair_of key phrase row ≡ true → row_of rows key phrase ≡ None
absent_of key phrase row rows b e =
    let same = of_pair key phrase row e in
    subst (λ (k : List ℕ). row_of rows k phrase ≡ None) same.0 (subst (λ (p : List ℕ). row_of rows row.key p ≡ None) same.1 (absent_below row rows b))

-- what is found behind the heads of two maps with one head and equal look-ups is equal
rest_alike : (x y : Row) (xs ys : List Row) → x ≡ y → BelowAll x xs → BelowAll y ys → (key phrase : List ℕ) → row_of (x ∷ xs) key phrase ≡ row_of (y ∷ ys) key phrase → row_of xs key phrase ≡ row_of ys key phrase
rest_alike x y xs ys heads bx by' key phrase same = ⊎_elim
    (λ (t : is_pair_of key phrase x ≡ true). absent_of key phrase x xs bx t ∙ sym (absent_of key phrase y ys by' (ap (is_pair_of key phrase) (sym heads) ∙ t)))
    (λ (f : is_pair_of key phrase x ≡ false). sym (found_later key phrase x xs f) ∙ same ∙ found_later key phrase y ys (ap (is_pair_of key phrase) (sym heads) ∙ f))
    (cases_Bool (is_pair_of key phrase x))

-- a row below the head of a map is not in it
pub missing : (x y : Row) (ys : List Row) → image_cmp x y ≡ Less → BelowAll y ys → row_of (y ∷ ys) x.key x.phrase ≡ None
missing x y ys l b = absent_below x (y ∷ ys) (and_from _ _ (ap is_lt l) (below_further x y ys l b))

-- the head of a map is found
pub head_found : (x : Row) (xs : List Row) → row_of (x ∷ xs) x.key x.phrase ≡ Some x
head_found x xs = found_first x.key x.phrase x xs (is_of_pair x.key x.phrase x refl refl)

-- the heads of two maps with equal look-ups are equal
heads_alike : (x y : Row) (xs ys : List Row) → BelowAll x xs → BelowAll y ys → ((key phrase : List ℕ) → row_of (x ∷ xs) key phrase ≡ row_of (y ∷ ys) key phrase) → x ≡ y
heads_alike x y xs ys bx by' same = by (image_cmp x y) refl
  where
    by : (o : Ordering) → image_cmp x y ≡ o → x ≡ y
    by Less e = absurd (some_not_none x (sym (head_found x xs) ∙ same x.key x.phrase ∙ missing x y ys e by'))
    by Equal e =
        let pair = tie_is_pair x y e in
        let found : Some x ≡ Some y = sym (head_found x xs) ∙ same x.key x.phrase ∙ found_first x.key x.phrase y ys (is_of_pair x.key x.phrase y (sym pair.0) (sym pair.1)) in
        cc
    by Greater e = absurd (some_not_none y (sym (head_found y ys) ∙ sym (same y.key y.phrase) ∙ missing y x xs (turned x y e) bx))

-- two maps with equal look-ups are equal
pub maps_alike : (xs ys : List Row) → is_map xs ≡ true → is_map ys ≡ true → ((key phrase : List ℕ) → row_of xs key phrase ≡ row_of ys key phrase) → xs ≡ ys
maps_alike [] [] mx my same = refl
maps_alike [] (y ∷ ys) mx my same = absurd (some_not_none y (sym (head_found y ys) ∙ sym (same y.key y.phrase)))
maps_alike (x ∷ xs) [] mx my same = absurd (some_not_none x (sym (head_found x xs) ∙ same x.key x.phrase))
maps_alike (x ∷ xs) (y ∷ ys) mx my same =
    let bx = and_parts (list_all (λ later. is_lt (image_cmp x later)) xs) (is_map xs) mx in
    let by' = and_parts (list_all (λ later. is_lt (image_cmp y later)) ys) (is_map ys) my in
    let heads = heads_alike x y xs ys bx.0 by'.0 same in
    let rest = maps_alike xs ys bx.1 by'.1 (λ key phrase. rest_alike x y xs ys heads bx.0 by'.0 key phrase (same key phrase)) in
    ap₂ (λ (r : Row) (rs : List Row). r ∷ rs) heads rest
