-- What is at a pair's place in a map, and what is left once the pair was put in there or taken out.
use Rattle.std.proofs.Common.{◌≡◌, ℕ, zero, suc, ◌+◌, ◌<◌, true, false, ap₂, not, List, [], ◌∷◌, length, get_or, take, set, refl, ap, sym, ◌∙◌, subst, Ordering, Less, Equal, Greater, is_lt, is_gt, true≢false, is_some, Some, None, Result, Ok, Err, IfOk, IfErr, Bor, arith}
use Rattle.std.specs.List.{insert, list_all, remove}
use Rattle.std.specs.Ordering.{match_ordering, ordering_reverse}
use Rattle.std.proofs.lemmas.Bool.{and_parts, cond-true, cond-false, false_from_ne_true}
use Rattle.chew_spec_syllable.specs.Row.{Row, image_cmp, is_pair_of, pair_cmp}
use Rattle.chew_spec_dictionary.specs.Dictionary.{is_map, put_row, without}
use Rattle.chew_spec_dictionary.specs.System.{row_of}
use Rattle.chew_spec_dictionary.proofs.ImageOrder.{image_total, is_of_pair, of_pair, tie_is_pair, pair_ties}
use Rattle.chew_spec_dictionary.proofs.Maps.{absent_of, is_less}
use Rattle.chew_spec_dictionary.proofs.Pairs.{found_first, found_later}
use Rattle.std.specs.Fn.{Called, ComputesKey}
use Rattle.std.specs.List.Sorted.{IsBinarySearchResult, IsSearchInRange, IsSorted}
use Rattle.std.proofs.lemmas.Fn.{always_returns_same}
use Rattle.std.proofs.lemmas.List.Sorted.{searchable_from_sorted}
use Rattle.chew_spec_dictionary.proofs.Once.{map_in_order}
use Rattle.chew_spec_dictionary.proofs.Order.{order_sorted}
use denote.Param.Members.{Mut}
use Rattle.chew_spec_dictionary.proofs.Found.{each_of_all}
use Rattle.chew_plain.proofs.Outcomes.{without_absent}
use Rattle.chew_plain.specs.Standing.{Lacks, Stands}

-- a row of these parts
abbrev of_pair_row : (key phrase : List ℕ) → Row
of_pair_row key phrase = record { key = key; phrase = phrase; freq = 0; time = 0 }

less_not_equal : Less ≡ Equal → ⊥
less_not_equal e = true≢false (ap is_lt e)

greater_not_equal : Greater ≡ Equal → ⊥
greater_not_equal e = true≢false (ap is_gt e)

-- a row that ties with a pair is of it
of_tie : (key phrase : List ℕ) (row : Row) → pair_cmp row.key row.phrase key phrase ≡ Equal → is_pair_of key phrase row ≡ true
of_tie key phrase row e = let same = tie_is_pair row (of_pair_row key phrase) e in is_of_pair key phrase row same.0 same.1

-- a row that doesn't is of another
of_less : (key phrase : List ℕ) (row : Row) (o : Ordering) → pair_cmp row.key row.phrase key phrase ≡ o → (o ≡ Equal → ⊥) → is_pair_of key phrase row ≡ false
of_less key phrase row o e other = false_from_ne_true _ (λ t. let same = of_pair key phrase row t in other (sym e ∙ pair_ties row (of_pair_row key phrase) (is_of_pair row.key row.phrase (of_pair_row key phrase) (sym same.0) (sym same.1))))

-- a row that is below one that ties with a pair is below the pair
below_pair : (key phrase : List ℕ) (first row : Row) → is_lt (image_cmp first row) ≡ true → pair_cmp row.key row.phrase key phrase ≡ Equal → pair_cmp first.key first.phrase key phrase ≡ Less
below_pair key phrase first row l e =
    let same = tie_is_pair row (of_pair_row key phrase) e in
    ap₂ (λ (k p : List ℕ). pair_cmp first.key first.phrase k p) (sym same.0) (sym same.1) ∙ is_less (image_cmp first row) l

-- a pair's row is put behind those that are below it, before those that it is below, and in place of its own
pub put_behind : (row first : Row) (rest : List Row) → image_cmp first row ≡ Less → put_row row (first ∷ rest) ≡ first ∷ put_row row rest
put_behind row first rest e = ap (λ o. match_ordering o (row ∷ (first ∷ rest)) (row ∷ rest) (first ∷ put_row row rest)) (image_total.antisymm row first ∙ ap ordering_reverse e)

pub put_before : (row first : Row) (rest : List Row) → image_cmp first row ≡ Greater → put_row row (first ∷ rest) ≡ row ∷ (first ∷ rest)
put_before row first rest e = ap (λ o. match_ordering o (row ∷ (first ∷ rest)) (row ∷ rest) (first ∷ put_row row rest)) (image_total.antisymm row first ∙ ap ordering_reverse e)

put_over : (row first : Row) (rest : List Row) → image_cmp first row ≡ Equal → put_row row (first ∷ rest) ≡ row ∷ rest
put_over row first rest e = ap (λ o. match_ordering o (row ∷ (first ∷ rest)) (row ∷ rest) (first ∷ put_row row rest)) (image_total.antisymm row first ∙ ap ordering_reverse e)

-- where the pair's row stands
pub found_there : (key phrase : List ℕ) (rows : List Row) (place : ℕ) (d : Row) → is_map rows ≡ true → Stands rows key phrase place → row_of rows key phrase ≡ Some (get_or rows place d)
found_there key phrase [] place d m s = absurd (omega (arith, s.inside))
found_there key phrase (row ∷ rows) zero d m s = found_first key phrase row rows (of_tie key phrase row (s.here d))
found_there key phrase (row ∷ rows) (suc k) d m s =
    let both = and_parts (list_all (λ later. is_lt (image_cmp row later)) rows) (is_map rows) m in
    let low = below_pair key phrase row (get_or rows k d) (each_of_all (λ later. is_lt (image_cmp row later)) rows k d both.0 (omega (arith, s.inside))) (s.here d) in
    found_later key phrase row rows (of_less key phrase row Less low less_not_equal) ∙ found_there key phrase rows k d both.1 (record { inside = omega (arith, s.inside); here = s.here })

pub put_there : (new : Row) (rows : List Row) (place : ℕ) → is_map rows ≡ true → Stands rows new.key new.phrase place → put_row new rows ≡ set rows place new
put_there new [] place m s = absurd (omega (arith, s.inside))
put_there new (row ∷ rows) zero m s = put_over new row rows (s.here row)
put_there new (row ∷ rows) (suc k) m s =
    let both = and_parts (list_all (λ later. is_lt (image_cmp row later)) rows) (is_map rows) m in
    let low = below_pair new.key new.phrase row (get_or rows k row) (each_of_all (λ later. is_lt (image_cmp row later)) rows k row both.0 (omega (arith, s.inside))) (s.here row) in
    put_behind new row rows low ∙ ap (λ l. row ∷ l) (put_there new rows k both.1 (record { inside = omega (arith, s.inside); here = s.here }))

pub out_there : (key phrase : List ℕ) (rows : List Row) (place : ℕ) → is_map rows ≡ true → Stands rows key phrase place → without key phrase rows ≡ remove rows place
out_there key phrase [] place m s = absurd (omega (arith, s.inside))
out_there key phrase (row ∷ rows) zero m s =
    let both = and_parts (list_all (λ later. is_lt (image_cmp row later)) rows) (is_map rows) m in
    let here = of_tie key phrase row (s.here row) in
    cond-false _ _ _ (ap not here) ∙ without_absent key phrase rows (absent_of key phrase row rows both.0 here)
out_there key phrase (row ∷ rows) (suc k) m s =
    let both = and_parts (list_all (λ later. is_lt (image_cmp row later)) rows) (is_map rows) m in
    let low = below_pair key phrase row (get_or rows k row) (each_of_all (λ later. is_lt (image_cmp row later)) rows k row both.0 (omega (arith, s.inside))) (s.here row) in
    cond-true _ _ _ (ap not (of_less key phrase row Less low less_not_equal))
    ∙ ap (λ l. row ∷ l) (out_there key phrase rows k both.1 (record { inside = omega (arith, s.inside); here = s.here }))

-- where it would stand
pub lacked : (key phrase : List ℕ) (rows : List Row) (place : ℕ) → Lacks rows key phrase place → row_of rows key phrase ≡ None
lacked key phrase [] place s = refl
lacked key phrase (row ∷ rows) zero s =
    found_later key phrase row rows (of_less key phrase row Greater (s.behind 0 row (omega arith) (omega arith)) greater_not_equal)
    ∙ lacked key phrase rows zero (record { within = omega arith; before = λ k d a b. absurd (omega (arith, b)); behind = λ k d a b. s.behind (suc k) d (omega arith) (omega (arith, b)) })
lacked key phrase (row ∷ rows) (suc n) s =
    found_later key phrase row rows (of_less key phrase row Less (s.before 0 row (omega arith) (omega arith)) less_not_equal)
    ∙ lacked key phrase rows n (record { within = omega (arith, s.within); before = λ k d a b. s.before (suc k) d (omega arith) (omega (arith, b)); behind = λ k d a b. s.behind (suc k) d (omega (arith, a)) (omega (arith, b)) })

pub put_in : (new : Row) (rows : List Row) (place : ℕ) → Lacks rows new.key new.phrase place → put_row new rows ≡ insert rows place new
put_in new [] zero s = refl
put_in new [] (suc n) s = absurd (omega (arith, s.within))
put_in new (row ∷ rows) zero s = put_before new row rows (s.behind 0 row (omega arith) (omega arith))
put_in new (row ∷ rows) (suc n) s =
    put_behind new row rows (s.before 0 row (omega arith) (omega arith))
    ∙ ap (λ l. row ∷ l) (put_in new rows n (record { within = omega (arith, s.within); before = λ k d a b. s.before (suc k) d (omega arith) (omega (arith, b)); behind = λ k d a b. s.behind (suc k) d (omega (arith, a)) (omega (arith, b)) }))

-- the rows of a map are sorted
sorted_map : (rows : List Row) → is_map rows ≡ true → IsSorted image_cmp rows
sorted_map rows m = subst (IsSorted image_cmp) (map_in_order rows m) (order_sorted image_cmp image_total rows)

-- what a binary search for a pair answers
module _ {F : Type 0} {g : Mut F (Bor Row × Unit {0}) Ordering} {f : F} (rows : List Row) (key phrase : List ℕ) (answer : Result ℕ ℕ)
    (said : (ord : Row → Ordering) → ComputesKey g ord f → IsBinarySearchResult ord rows answer) (inside : IsSearchInRange answer (length rows))
    (calls : (a : Bor Row × Unit {0}) (r : Ordering) (f' : F) → Called g f a r f' → (r ≡ pair_cmp a.0.now.key a.0.now.phrase key phrase) × (f' ≡ f)) where
  its_answer : IsBinarySearchResult (λ row. pair_cmp row.key row.phrase key phrase) rows answer
  its_answer = said (λ row. pair_cmp row.key row.phrase key phrase) (always_returns_same g (λ a r. r ≡ pair_cmp a.0.now.key a.0.now.phrase key phrase) f calls)

  pub stands_where_found : IfOk answer (Stands rows key phrase)
  stands_where_found = by answer inside its_answer
    where
      by : (r : Result ℕ ℕ) → IsSearchInRange r (length rows) → IsBinarySearchResult (λ row. pair_cmp row.key row.phrase key phrase) rows r → IfOk r (Stands rows key phrase)
      by (Ok place) i h = record { inside = i; here = h }
      by (Err place) i h = tt

  pub lacks_where_not_found : is_map rows ≡ true → IfErr answer (Lacks rows key phrase)
  lacks_where_not_found m = by answer inside its_answer
    where
      by : (r : Result ℕ ℕ) → IsSearchInRange r (length rows) → IsBinarySearchResult (λ row. pair_cmp row.key row.phrase key phrase) rows r → IfErr r (Lacks rows key phrase)
      by (Ok place) i h = tt
      by (Err place) i h =
          let both = h (searchable_from_sorted image_total (λ (row : Row). row) rows (of_pair_row key phrase) (sorted_map rows m)) in
          record { within = i; before = both.0; behind = both.1 }

-- the same of a slice of the rows
module _ (rows slice : List Row) (same : slice ≡ rows) (place : ℕ) where
  pub put_over_there : (new : Row) → is_map rows ≡ true → (key phrase : List ℕ) → new.key ≡ key → new.phrase ≡ phrase → Stands slice key phrase place → put_row new rows ≡ set rows place new
  put_over_there new m key phrase k p s = put_there new rows place m (subst (λ l. Stands l new.key new.phrase place) same (subst (λ q. Stands slice new.key q place) (sym p) (subst (λ q. Stands slice q phrase place) (sym k) s)))

  pub put_in_there : (new : Row) (key phrase : List ℕ) → new.key ≡ key → new.phrase ≡ phrase → Lacks slice key phrase place → put_row new rows ≡ insert rows place new
  put_in_there new key phrase k p s = put_in new rows place (subst (λ l. Lacks l new.key new.phrase place) same (subst (λ q. Lacks slice new.key q place) (sym p) (subst (λ q. Lacks slice q phrase place) (sym k) s)))

  pub held_there : (key phrase : List ℕ) → is_map rows ≡ true → Stands slice key phrase place → (true ≡ is_some (row_of rows key phrase)) × (remove rows place ≡ without key phrase rows)
  held_there key phrase m s =
      let here = subst (λ l. Stands l key phrase place) same s in
      (sym (ap is_some (found_there key phrase rows place (of_pair_row key phrase) m here)), sym (out_there key phrase rows place m here))

  pub lacked_there : (key phrase : List ℕ) → Lacks slice key phrase place → (false ≡ is_some (row_of rows key phrase)) × (rows ≡ without key phrase rows)
  lacked_there key phrase s =
      let none = lacked key phrase rows place (subst (λ l. Lacks l key phrase place) same s) in
      (sym (ap is_some none), sym (without_absent key phrase rows none))

-- the rows of a map, put in one after the other
pub next_row : (rows : List Row) (i : ℕ) (row : Row) → is_map rows ≡ true → i < length rows → row ≡ get_or rows i row → put_row row (take i rows) ≡ take (i + 1) rows
next_row [] i row m l e = absurd (omega arith)
next_row (first ∷ rest) zero row m l e = ap (λ (r : Row). r ∷ []) e
next_row (first ∷ rest) (suc i) row m l e =
    let both = and_parts (list_all (λ later. is_lt (image_cmp first later)) rest) (is_map rest) m in
    let low = ap (image_cmp first) e ∙ is_less _ (each_of_all (λ later. is_lt (image_cmp first later)) rest i row both.0 (omega arith)) in
    put_behind row first (take i rest) low
    ∙ ap (λ l. first ∷ l) (next_row rest i row both.1 (omega arith) e)
    ∙ ap (λ n. take n (first ∷ rest)) (let n : suc (i + 1) ≡ suc i + 1 = omega arith in n)
