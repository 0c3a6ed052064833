-- What a layer says of a pair, once a mark was put in, and that it stays a layer.
use Rattle.std.proofs.Common.{◌≡◌, ℕ, Bool, true, false, List, [], ◌∷◌, ◌&&◌, find, refl, ap, sym, ◌∙◌, cond, ap₂, Less, Equal, Greater, is_lt, is_gt, is_some, Some, None, true≢false, option_map}
use Rattle.std.specs.List.{list_all}
use Rattle.std.specs.Str.{bytes_eq}
use Rattle.std.proofs.lemmas.Bool.{and_parts, and_from, false_from_ne_true}
use Rattle.chew_spec_syllable.specs.Row.{Row}
use Rattle.chew_spec_dictionary.proofs.ImageOrder.{image_total, by_cases, turned, tie_is_pair, of_pair, is_of_pair, apart}
use Rattle.chew_spec_dictionary.proofs.Maps.{is_less}
use Rattle.chew_spec_layers.specs.Mark.{Mark, Marked, is_mark_of, marked_cmp, is_layer, mark_of, put_mark}

-- a row of the mark's pair
abbrev pub place : Marked → Row
place m = record { key = m.key; phrase = m.phrase; freq = 0; time = 0 }

-- the mark is below each of these
abbrev pub BelowMarks : Marked → List Marked → Type 0
BelowMarks m marks = list_all (λ later. is_lt (marked_cmp m later)) marks ≡ true

-- a mark of a pair has its key and its phrase
pub of_mark : (key phrase : List ℕ) (m : Marked) → is_mark_of key phrase m ≡ true → (m.key ≡ key) × (m.phrase ≡ phrase)
of_mark key phrase m e = of_pair key phrase (place m) e

pub is_of_mark : (key phrase : List ℕ) (m : Marked) → m.key ≡ key → m.phrase ≡ phrase → is_mark_of key phrase m ≡ true
is_of_mark key phrase m k p = is_of_pair key phrase (place m) k p

-- a mark whose key or phrase differs is of another pair
pub other_mark : (m : Marked) (key phrase : List ℕ) → (m.key ≡ key → m.phrase ≡ phrase → ⊥) → is_mark_of key phrase m ≡ false
other_mark m key phrase other = false_from_ne_true _ (λ t. let a = of_mark key phrase m t in other a.0 a.1)

-- marks that begin with one of the pair, and with one of another
pub mark_first : (key phrase : List ℕ) (m : Marked) (marks : List Marked) → is_mark_of key phrase m ≡ true → mark_of (m ∷ marks) key phrase ≡ Some m.mark
mark_first key phrase m marks e = ap (λ (b : Bool). option_map (λ (x : Marked). x.mark) (cond b (Some m) (find (is_mark_of key phrase) marks))) e

pub mark_later : (key phrase : List ℕ) (m : Marked) (marks : List Marked) → is_mark_of key phrase m ≡ false → mark_of (m ∷ marks) key phrase ≡ mark_of marks key phrase
mark_later key phrase m marks e = ap (λ (b : Bool). option_map (λ (x : Marked). x.mark) (cond b (Some m) (find (is_mark_of key phrase) marks))) e

-- something is not nothing
pub mark_not_none : (mark : Mark) → Some mark ≡ None → ⊥
mark_not_none mark e = true≢false (ap is_some e)

-- a mark below others is of another pair than they
pub absent_mark : (m : Marked) (marks : List Marked) → BelowMarks m marks → mark_of marks m.key m.phrase ≡ None
absent_mark m [] b = refl
absent_mark m (first ∷ rest) b =
    let both = and_parts (is_lt (marked_cmp m first)) (list_all (λ later. is_lt (marked_cmp m later)) rest) b in
    let later = absent_mark m rest both.1 in
    mark_later m.key m.phrase first rest (apart (place m) (place first) Less (is_less _ both.0) (λ e. true≢false (ap is_lt e))) ∙ later

-- a mark that was put in is that of its pair
pub put_mark_found : (m : Marked) (marks : List Marked) → mark_of (put_mark m marks) m.key m.phrase ≡ Some m.mark
put_mark_found m [] = mark_first m.key m.phrase m [] (is_of_mark _ _ m refl refl)
put_mark_found m (first ∷ rest) =
    let here = is_of_mark m.key m.phrase m refl refl in
    let later = put_mark_found m rest in
    by_cases (marked_cmp m first) (m ∷ (first ∷ rest)) (m ∷ rest) (first ∷ put_mark m rest) (λ marks. mark_of marks m.key m.phrase ≡ Some m.mark)
    (λ _. mark_first m.key m.phrase m (first ∷ rest) here)
    (λ _. mark_first m.key m.phrase m rest here)
    (λ e. mark_later m.key m.phrase first (put_mark m rest) (apart (place m) (place first) Greater e (λ n. true≢false (ap is_gt n))) ∙ later)

-- no other pair's mark changes when one is put in
pub put_mark_others : (m : Marked) (marks : List Marked) (key phrase : List ℕ) → is_mark_of key phrase m ≡ false → mark_of (put_mark m marks) key phrase ≡ mark_of marks key phrase
put_mark_others m [] key phrase other = mark_later key phrase m [] other
put_mark_others m (first ∷ rest) key phrase other =
    let later = put_mark_others m rest key phrase other in
    by_cases (marked_cmp m first) (m ∷ (first ∷ rest)) (m ∷ rest) (first ∷ put_mark m rest) (λ marks. mark_of marks key phrase ≡ mark_of (first ∷ rest) key phrase)
    (λ _. mark_later key phrase m (first ∷ rest) other)
    (λ e. mark_later key phrase m rest other ∙ sym (mark_later key phrase first rest (tied e)))
    (λ _. behind (is_mark_of key phrase first) refl later)
  where
    tied : marked_cmp m first ≡ Equal → is_mark_of key phrase first ≡ false
    tied e = let same = tie_is_pair (place m) (place first) e in ap₂ (λ (k p : List ℕ). bytes_eq k key && bytes_eq p phrase) (sym same.0) (sym same.1) ∙ other

    behind : (b : Bool) → is_mark_of key phrase first ≡ b → mark_of (put_mark m rest) key phrase ≡ mark_of rest key phrase → mark_of (first ∷ put_mark m rest) key phrase ≡ mark_of (first ∷ rest) key phrase
    behind true t later = mark_first key phrase first (put_mark m rest) t ∙ sym (mark_first key phrase first rest t)
    behind false f later = mark_later key phrase first (put_mark m rest) f ∙ later ∙ sym (mark_later key phrase first rest f)

-- a mark below a mark that is below others is below those
below_marks_further : (m first : Marked) (rest : List Marked) → marked_cmp m first ≡ Less → BelowMarks first rest → BelowMarks m rest
below_marks_further m first [] l b = refl
below_marks_further m first (next ∷ rest) l b =
    let both = and_parts (is_lt (marked_cmp first next)) _ b in
    and_from _ _ (ap is_lt (image_total.trans (place m) (place first) (place next) l (is_less _ both.0))) (below_marks_further m first rest l both.1)

-- a mark that ties with one that is below others is below those
below_marks_tied : (m first : Marked) (rest : List Marked) → marked_cmp m first ≡ Equal → BelowMarks first rest → BelowMarks m rest
below_marks_tied m first [] t b = refl
below_marks_tied m first (next ∷ rest) t b =
    let both = and_parts (is_lt (marked_cmp first next)) _ b in
    and_from _ _ (ap is_lt (image_total.congr (place m) (place first) (place next) t) ∙ both.0) (below_marks_tied m first rest t both.1)

-- a mark that is below others and below one is below them once that is put in
below_put_mark : (low m : Marked) (marks : List Marked) → marked_cmp low m ≡ Less → BelowMarks low marks → BelowMarks low (put_mark m marks)
below_put_mark low m [] l b = and_from _ _ (ap is_lt l) refl
below_put_mark low m (first ∷ rest) l b =
    let both = and_parts (is_lt (marked_cmp low first)) (list_all (λ later. is_lt (marked_cmp low later)) rest) b in
    let later = below_put_mark low m rest l both.1 in
    by_cases (marked_cmp m first) (m ∷ (first ∷ rest)) (m ∷ rest) (first ∷ put_mark m rest) (BelowMarks low)
    (λ _. and_from _ _ (ap is_lt l) b)
    (λ _. and_from _ _ (ap is_lt l) both.1)
    (λ _. and_from _ _ both.0 later)

-- a mark put into a layer leaves a layer
pub put_mark_keeps : (m : Marked) (marks : List Marked) → is_layer marks ≡ true → is_layer (put_mark m marks) ≡ true
put_mark_keeps m [] l = refl
put_mark_keeps m (first ∷ rest) l =
    let both = and_parts (list_all (λ later. is_lt (marked_cmp first later)) rest) (is_layer rest) l in
    let later = put_mark_keeps m rest both.1 in
    by_cases (marked_cmp m first) (m ∷ (first ∷ rest)) (m ∷ rest) (first ∷ put_mark m rest) (λ marks. is_layer marks ≡ true)
    (λ e. and_from _ _ (and_from _ _ (ap is_lt e) (below_marks_further m first rest e both.0)) l)
    (λ e. and_from _ _ (below_marks_tied m first rest e both.0) both.1)
    (λ e. and_from _ _ (below_put_mark first m rest (turned (place m) (place first) e) both.0) later)

-- a test that a mark passes, as others do, is passed by all once it is put in
pub all_put_mark : (test : Marked → Bool) (m : Marked) (marks : List Marked) → test m ≡ true → list_all test marks ≡ true → list_all test (put_mark m marks) ≡ true
all_put_mark test m [] t a = and_from _ _ t refl
all_put_mark test m (first ∷ rest) t a =
    let both = and_parts (test first) (list_all test rest) a in
    let later = all_put_mark test m rest t both.1 in
    by_cases (marked_cmp m first) (m ∷ (first ∷ rest)) (m ∷ rest) (first ∷ put_mark m rest) (λ marks. list_all test marks ≡ true)
    (λ _. and_from _ _ t a)
    (λ _. and_from _ _ t both.1)
    (λ _. and_from _ _ both.0 later)
