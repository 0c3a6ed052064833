-- A map that keeps a list of rows for each key: what is found in it, and what is left once a list changed.
use Rattle.std.proofs.Common.{◌≡◌, ℕ, ◌&&◌, Bool, true, false, not, List, [], ◌∷◌, ◌++◌, cond, refl, ap, ap₂, sym, ◌∙◌, subst, Ordering, Less, Equal, Greater, is_eq, is_lt, Option, Some, None, append-nil, true≢false}
use Rattle.std.specs.Cmp.Lexicographic.{slice_cmp}
use Rattle.std.specs.List.{AllByRecursion, filter, list_all}
use Rattle.std.specs.Option.{option_map_or}
use Rattle.std.specs.Ordering.{match_ordering, nat_cmp, ordering_reverse, ordering_then}
use Rattle.std.specs.Str.{bytes_eq}
use Rattle.std.specs.BTreeMap.{insert_entry, is_at}
use Rattle.std.specs.Map.{keys_of, lookup, remove_entry, set_value}
use Rattle.std.specs.List.Sorted.{IsStrictlySortedBy}
use Rattle.std.proofs.lemmas.Bool.{and_from, and_parts, cond-true, cond-false, false_from_ne_true}
use Rattle.std.proofs.lemmas.Cmp.{tied_itself}
use Rattle.std.proofs.lemmas.List.Elements.{All-filter, filter-append}
use Rattle.std.proofs.lemmas.List.Sums.{AllPass-from_list_all, list_all-from_AllPass}
use Rattle.std.proofs.lemmas.Map.Keys.{sorted_head, sorted_tail}
use Rattle.std.proofs.lemmas.Option.{none-some, same_Some}
use Rattle.std.proofs.lemmas.Slice.Eq.{bytes_eq-Decides}
use Rattle.chew_spec_syllable.specs.Row.{Row, image_cmp, is_pair_of}
use Rattle.chew_spec_dictionary.specs.Dictionary.{is_map, put_row, without}
use Rattle.chew_spec_dictionary.specs.System.{is_under, row_of, rows_under}
use Rattle.chew_spec_dictionary.proofs.ImageOrder.{by_cases}
use Rattle.chew_spec_dictionary.proofs.Maps.{filter_keeps, put_keeps}
use Rattle.chew_plain.specs.ByKey.{all_rows, are_own}
use Rattle.chew_plain.specs.Order.{key_cmp, key_total}
use Rattle.chew_plain.proofs.KeyRows.{has_key, key_apart_back, keys_equal}
use Rattle.chew_plain.proofs.Orders.{pair_cmp_parts}
use Rattle.chew_plain.proofs.Standing.{put_behind}

-- keys that tie are equal
key_ties : (key other : List ℕ) → key_cmp key other ≡ Equal → key ≡ other
key_ties key other e = keys_equal key other (ap is_lt e) (ap is_lt (key_total.antisymm other key ∙ ap ordering_reverse e))

-- keys that do not are not
key_differs : (key other : List ℕ) (o : Ordering) → key_cmp key other ≡ o → is_eq o ≡ false → bytes_eq other key ≡ false
key_differs key other o e n = false_from_ne_true _ (λ t. true≢false (sym (ap is_eq (sym e ∙ ap (key_cmp key) ((bytes_eq-Decides other key).0 t) ∙ tied_itself key_total key)) ∙ n))

-- rows whose keys are above a key, and below it
Above : List ℕ → List Row → Type 0
Above key [] = Unit {0}
Above key (row ∷ rows) = (key_cmp key row.key ≡ Less) × Above key rows

Below : List ℕ → List Row → Type 0
Below key [] = Unit {0}
Below key (row ∷ rows) = (key_cmp row.key key ≡ Less) × Below key rows

-- rows of a key above or below another
above_own : (key own : List ℕ) (rows : List Row) → key_cmp key own ≡ Less → list_all (is_under own) rows ≡ true → Above key rows
unfolding Above
above_own key own [] l a = tt
above_own key own (row ∷ rows) l a =
    let both = and_parts (is_under own row) (list_all (is_under own) rows) a in
    (ap (key_cmp key) (has_key own row both.0) ∙ l, above_own key own rows l both.1)

below_own : (key own : List ℕ) (rows : List Row) → key_cmp own key ≡ Less → list_all (is_under own) rows ≡ true → Below key rows
unfolding Below
below_own key own [] l a = tt
below_own key own (row ∷ rows) l a =
    let both = and_parts (is_under own row) (list_all (is_under own) rows) a in
    (ap (λ k. key_cmp k key) (has_key own row both.0) ∙ l, below_own key own rows l both.1)

above_both : (key : List ℕ) (rows more : List Row) → Above key rows → Above key more → Above key (rows ++ more)
unfolding Above
above_both key [] more a b = b
above_both key (row ∷ rows) more a b = (a.0, above_both key rows more a.1 b)

-- a row whose key is less is less
image_less : (row other : Row) → key_cmp row.key other.key ≡ Less → image_cmp row other ≡ Less
image_less row other e = pair_cmp_parts row.key row.phrase other.key other.phrase ∙ ap (λ o. ordering_then o (slice_cmp nat_cmp row.phrase other.phrase)) e

-- a row is put into a front before rows that are above it, and behind those that are below it
put_front : (row : Row) (rows rest : List Row) → Above row.key rest → put_row row (rows ++ rest) ≡ put_row row rows ++ rest
unfolding Above
put_front row [] [] a = refl
put_front row [] (next ∷ rest) a = ap (λ o. match_ordering o (row ∷ (next ∷ rest)) (row ∷ rest) (next ∷ put_row row rest)) (image_less row next a.0)
put_front row (first ∷ rows) rest a = by (image_cmp row first) (put_front row rows rest a)
  where
    by : (o : Ordering) → put_row row (rows ++ rest) ≡ put_row row rows ++ rest
        → match_ordering o (row ∷ (first ∷ (rows ++ rest))) (row ∷ (rows ++ rest)) (first ∷ put_row row (rows ++ rest)) ≡ match_ordering o (row ∷ (first ∷ rows)) (row ∷ rows) (first ∷ put_row row rows) ++ rest
    by Less e = refl
    by Equal e = refl
    by Greater e = ap (λ l. first ∷ l) e

put_back : (row : Row) (rows more : List Row) → Below row.key rows → put_row row (rows ++ more) ≡ rows ++ put_row row more
unfolding Below
put_back row [] more b = refl
put_back row (first ∷ rows) more b = put_behind row first (rows ++ more) (image_less first row b.0) ∙ ap (λ l. first ∷ l) (put_back row rows more b.1)

-- the rows under a key among rows of it, of another key, and above it
under_own : (key : List ℕ) (rows : List Row) → list_all (is_under key) rows ≡ true → rows_under rows key ≡ rows
under_own key [] a = refl
under_own key (row ∷ rows) a =
    let both = and_parts (is_under key row) (list_all (is_under key) rows) a in
    cond-true _ _ _ both.0 ∙ ap (λ l. row ∷ l) (under_own key rows both.1)

under_other : (key own : List ℕ) (rows : List Row) → bytes_eq own key ≡ false → list_all (is_under own) rows ≡ true → rows_under rows key ≡ []
under_other key own [] n a = refl
under_other key own (row ∷ rows) n a =
    let both = and_parts (is_under own row) (list_all (is_under own) rows) a in
    cond-false _ _ _ (ap (λ k. bytes_eq k key) (has_key own row both.0) ∙ n) ∙ under_other key own rows n both.1

under_above : (key : List ℕ) (rows : List Row) → Above key rows → rows_under rows key ≡ []
unfolding Above
under_above key [] a = refl
under_above key (row ∷ rows) a = cond-false _ _ _ (key_apart_back row.key key (ap is_lt a.0)) ∙ under_above key rows a.1

-- rows without a pair of a key that none of them has
pub without_other : (key phrase : List ℕ) (rows : List Row) → rows_under rows key ≡ [] → without key phrase rows ≡ rows
without_other key phrase [] e = refl
without_other key phrase (row ∷ rows) e = by (bytes_eq row.key key) e (without_other key phrase rows)
  where
    by : (b : Bool) → cond b (row ∷ rows_under rows key) (rows_under rows key) ≡ [] → (rows_under rows key ≡ [] → without key phrase rows ≡ rows)
        → cond (not (b && bytes_eq row.phrase phrase)) (row ∷ without key phrase rows) (without key phrase rows) ≡ row ∷ rows
    by true e later = absurd cc
    by false e later = ap (λ l. row ∷ l) (later e)

-- the row of a pair is among the rows of its key
pub row_under : (key phrase : List ℕ) (rows : List Row) → row_of (rows_under rows key) key phrase ≡ row_of rows key phrase
row_under key phrase [] = refl
row_under key phrase (row ∷ rows) = by (bytes_eq row.key key) refl (row_under key phrase rows)
  where
    by : (b : Bool) → bytes_eq row.key key ≡ b → row_of (rows_under rows key) key phrase ≡ row_of rows key phrase
        → row_of (cond b (row ∷ rows_under rows key) (rows_under rows key)) key phrase ≡ cond (b && bytes_eq row.phrase phrase) (Some row) (row_of rows key phrase)
    by true e later = ap (λ b. cond (b && bytes_eq row.phrase phrase) (Some row) (row_of (rows_under rows key) key phrase)) e ∙ ap (λ o. cond (bytes_eq row.phrase phrase) (Some row) o) later
    by false e later = later

-- the rows of a key stay its own once one of it is put in, and once some go
own_put : (key : List ℕ) (row : Row) (rows : List Row) → is_under key row ≡ true → list_all (is_under key) rows ≡ true → list_all (is_under key) (put_row row rows) ≡ true
own_put key row [] t a = and_from _ _ t refl
own_put key row (first ∷ rest) t a =
    let both = and_parts (is_under key first) (list_all (is_under key) rest) a in
    let later = own_put key row rest t both.1 in
    by_cases (image_cmp row first) (row ∷ (first ∷ rest)) (row ∷ rest) (first ∷ put_row row rest) (λ rows. list_all (is_under key) rows ≡ true)
    (λ _. and_from _ _ t a)
    (λ _. and_from _ _ t both.1)
    (λ _. and_from _ _ both.0 later)

own_kept : (key : List ℕ) (keep : Row → Bool) (rows : List Row) → list_all (is_under key) rows ≡ true → list_all (is_under key) (filter keep rows) ≡ true
own_kept key keep rows a = list_all-from_AllPass (is_under key) (filter keep rows) (All-filter keep (λ row. is_under key row ≡ true) rows (AllPass-from_list_all (is_under key) rows a))

module _ {L : Type 0} (items : L → List Row) where
  abbrev Entry : Type 0
  Entry = List ℕ × L

  abbrev Ascends : List Entry → Type 0
  Ascends lists = IsStrictlySortedBy key_cmp (keys_of lists)

  -- the rows of keys above a key
  above_all : (key : List ℕ) (lists : List Entry) → AllByRecursion (λ k. key_cmp key k ≡ Less) (keys_of lists) → are_own items lists ≡ true → Above key (all_rows items lists)
  unfolding Above
  above_all key [] l a = tt
  above_all key (e ∷ lists) l a =
      let both = and_parts (list_all (is_under e.0) (items e.1)) (are_own items lists) a in
      above_both key (items e.1) (all_rows items lists) (above_own key e.0 (items e.1) l.0 both.0) (above_all key lists l.1 both.1)

  -- and above one of a key that ties with the first
  above_rest : (key : List ℕ) (e : Entry) (lists : List Entry) → key ≡ e.0 → Ascends (e ∷ lists) → are_own items lists ≡ true → Above key (all_rows items lists)
  above_rest key e lists same s a = subst (λ k. Above k (all_rows items lists)) (sym same) (above_all e.0 lists (sorted_head key_cmp e.0 (keys_of lists) s) a)

  -- a key below all keys is not found
  none_above : (key : List ℕ) (lists : List Entry) → AllByRecursion (λ k. key_cmp key k ≡ Less) (keys_of lists) → lookup (is_at (key_cmp key)) lists ≡ None
  none_above key [] l = refl
  none_above key (e ∷ lists) l = cond-false _ _ _ (ap is_eq l.0) ∙ none_above key lists l.1

  above_keys : (key other : List ℕ) (keys : List (List ℕ)) → key_cmp key other ≡ Less → AllByRecursion (λ k. key_cmp other k ≡ Less) keys → AllByRecursion (λ k. key_cmp key k ≡ Less) keys
  above_keys key other [] l a = tt
  above_keys key other (k ∷ keys) l a = (key_total.trans key other k l a.0, above_keys key other keys l a.1)

  -- the rows of a key are its list
  pub rows_by_key : (key : List ℕ) (lists : List Entry) → Ascends lists → are_own items lists ≡ true → rows_under (all_rows items lists) key ≡ option_map_or items (lookup (is_at (key_cmp key)) lists) []
  rows_by_key key [] s a = refl
  rows_by_key key (e ∷ lists) s a =
      let both = and_parts (list_all (is_under e.0) (items e.1)) (are_own items lists) a in
      filter-append (is_under key) (items e.1) (all_rows items lists)
      ∙ by (key_cmp key e.0) refl both.0 both.1 (rows_by_key key lists (sorted_tail key_cmp e.0 (keys_of lists) s) both.1)
    where
      by : (o : Ordering) → key_cmp key e.0 ≡ o → list_all (is_under e.0) (items e.1) ≡ true → are_own items lists ≡ true
          → rows_under (all_rows items lists) key ≡ option_map_or items (lookup (is_at (key_cmp key)) lists) []
          → rows_under (items e.1) key ++ rows_under (all_rows items lists) key ≡ option_map_or items (cond (is_eq o) (Some e.1) (lookup (is_at (key_cmp key)) lists)) []
      by Less o own a later = ap (λ l. l ++ rows_under (all_rows items lists) key) (under_other key e.0 (items e.1) (key_differs key e.0 Less o refl) own) ∙ later
      by Greater o own a later = ap (λ l. l ++ rows_under (all_rows items lists) key) (under_other key e.0 (items e.1) (key_differs key e.0 Greater o refl) own) ∙ later
      by Equal o own a later =
          let same = key_ties key e.0 o in
          ap₂ (λ (x y : List Row). x ++ y) (ap (rows_under (items e.1)) same ∙ under_own e.0 (items e.1) own) (under_above key (all_rows items lists) (above_rest key e lists same s a))
          ∙ append-nil (items e.1)

  -- the row of a pair is in its key's list
  pub row_by_key : (key phrase : List ℕ) (lists : List Entry) → Ascends lists → are_own items lists ≡ true
      → row_of (option_map_or items (lookup (is_at (key_cmp key)) lists) []) key phrase ≡ row_of (all_rows items lists) key phrase
  row_by_key key phrase lists s a = ap (λ l. row_of l key phrase) (sym (rows_by_key key lists s a)) ∙ row_under key phrase (all_rows items lists)

  -- a list of a map's is a map
  pub list_is_map : (key : List ℕ) (lists : List Entry) → Ascends lists → are_own items lists ≡ true → is_map (all_rows items lists) ≡ true → is_map (option_map_or items (lookup (is_at (key_cmp key)) lists) []) ≡ true
  list_is_map key lists s a m = ap is_map (sym (rows_by_key key lists s a)) ∙ filter_keeps (is_under key) (all_rows items lists) m

  -- what it holds is of the key
  pub list_is_own : (key : List ℕ) (lists : List Entry) (list : L) → are_own items lists ≡ true → lookup (is_at (key_cmp key)) lists ≡ Some list → list_all (is_under key) (items list) ≡ true
  list_is_own key [] list a e = absurd (none-some list e)
  list_is_own key (first ∷ lists) list a e =
      let both = and_parts (list_all (is_under first.0) (items first.1)) (are_own items lists) a in
      by (key_cmp key first.0) refl both.0 e (list_is_own key lists list both.1)
    where
      by : (o : Ordering) → key_cmp key first.0 ≡ o → list_all (is_under first.0) (items first.1) ≡ true
          → cond (is_eq o) (Some first.1) (lookup (is_at (key_cmp key)) lists) ≡ Some list
          → (lookup (is_at (key_cmp key)) lists ≡ Some list → list_all (is_under key) (items list) ≡ true) → list_all (is_under key) (items list) ≡ true
      by Less o own e later = later e
      by Greater o own e later = later e
      by Equal o own e later = subst (λ k. list_all (is_under k) (items list) ≡ true) (sym (key_ties key first.0 o)) (ap (λ l. list_all (is_under first.0) (items l)) (sym (same_Some first.1 list e)) ∙ own)

  -- a row put into its key's list is put into the map
  pub put_by_key : (row : Row) (lists : List Entry) (had now : L) → Ascends lists → are_own items lists ≡ true → lookup (is_at (key_cmp row.key)) lists ≡ Some had
      → items now ≡ put_row row (items had) → all_rows items (set_value (is_at (key_cmp row.key)) lists now) ≡ put_row row (all_rows items lists)
  put_by_key row [] had now s a e p = absurd (none-some had e)
  put_by_key row (first ∷ lists) had now s a e p =
      let both = and_parts (list_all (is_under first.0) (items first.1)) (are_own items lists) a in
      let tail = sorted_tail key_cmp first.0 (keys_of lists) s in
      by (key_cmp row.key first.0) refl both.0 e (λ f. put_by_key row lists had now tail both.1 f p) both.1
    where
      by : (o : Ordering) → key_cmp row.key first.0 ≡ o → list_all (is_under first.0) (items first.1) ≡ true
          → cond (is_eq o) (Some first.1) (lookup (is_at (key_cmp row.key)) lists) ≡ Some had
          → (lookup (is_at (key_cmp row.key)) lists ≡ Some had → all_rows items (set_value (is_at (key_cmp row.key)) lists now) ≡ put_row row (all_rows items lists))
          → are_own items lists ≡ true
          → all_rows items (cond (is_eq o) ((first.0, now) ∷ lists) (first ∷ set_value (is_at (key_cmp row.key)) lists now)) ≡ put_row row (items first.1 ++ all_rows items lists)
      by Less o own e later a = absurd (none-some had (sym (none_above row.key lists (above_keys row.key first.0 (keys_of lists) o (sorted_head key_cmp first.0 (keys_of lists) s))) ∙ e))
      by Greater o own e later a =
          ap (λ l. items first.1 ++ l) (later e)
          ∙ sym (put_back row (items first.1) (all_rows items lists) (below_own row.key first.0 (items first.1) (key_total.antisymm first.0 row.key ∙ ap ordering_reverse o) own))
      by Equal o own e later a =
          ap (λ l. l ++ all_rows items lists) (p ∙ ap (λ l. put_row row (items l)) (sym (same_Some first.1 had e)))
          ∙ sym (put_front row (items first.1) (all_rows items lists) (above_rest row.key first lists (key_ties row.key first.0 o) s a))

  -- a row whose key has no rows gets a list of its own
  pub insert_by_key : (row : Row) (lists : List Entry) (new : L) → Ascends lists → are_own items lists ≡ true → option_map_or items (lookup (is_at (key_cmp row.key)) lists) [] ≡ []
      → items new ≡ row ∷ [] → all_rows items (insert_entry key_cmp lists row.key new) ≡ put_row row (all_rows items lists)
  insert_by_key row [] new s a e n = append-nil (items new) ∙ n
  insert_by_key row (first ∷ lists) new s a e n =
      let both = and_parts (list_all (is_under first.0) (items first.1)) (are_own items lists) a in
      let tail = sorted_tail key_cmp first.0 (keys_of lists) s in
      by (key_cmp row.key first.0) refl both.0 e (λ f. insert_by_key row lists new tail both.1 f n) both.1
    where
      by : (o : Ordering) → key_cmp row.key first.0 ≡ o → list_all (is_under first.0) (items first.1) ≡ true
          → option_map_or items (cond (is_eq o) (Some first.1) (lookup (is_at (key_cmp row.key)) lists)) [] ≡ []
          → (option_map_or items (lookup (is_at (key_cmp row.key)) lists) [] ≡ [] → all_rows items (insert_entry key_cmp lists row.key new) ≡ put_row row (all_rows items lists))
          → are_own items lists ≡ true
          → all_rows items (match_ordering o ((row.key, new) ∷ (first ∷ lists)) ((first.0, new) ∷ lists) (first ∷ insert_entry key_cmp lists row.key new)) ≡ put_row row (items first.1 ++ all_rows items lists)
      by Less o own e later a =
          ap (λ l. l ++ (items first.1 ++ all_rows items lists)) n
          ∙ sym (put_front row [] (items first.1 ++ all_rows items lists)
          (above_both row.key (items first.1) (all_rows items lists) (above_own row.key first.0 (items first.1) o own)
          (above_all row.key lists (above_keys row.key first.0 (keys_of lists) o (sorted_head key_cmp first.0 (keys_of lists) s)) a)))
      by Greater o own e later a =
          ap (λ l. items first.1 ++ l) (later e)
          ∙ sym (put_back row (items first.1) (all_rows items lists) (below_own row.key first.0 (items first.1) (key_total.antisymm first.0 row.key ∙ ap ordering_reverse o) own))
      by Equal o own e later a =
          ap (λ l. l ++ all_rows items lists) n
          ∙ sym (ap (λ l. put_row row (l ++ all_rows items lists)) e ∙ put_front row [] (all_rows items lists) (above_rest row.key first lists (key_ties row.key first.0 o) s a))

  -- a pair taken out of its key's list is taken out of the map
  pub out_by_key : (key phrase : List ℕ) (lists : List Entry) (had now : L) → Ascends lists → are_own items lists ≡ true → lookup (is_at (key_cmp key)) lists ≡ Some had
      → items now ≡ without key phrase (items had) → all_rows items (set_value (is_at (key_cmp key)) lists now) ≡ without key phrase (all_rows items lists)
  out_by_key key phrase [] had now s a e p = absurd (none-some had e)
  out_by_key key phrase (first ∷ lists) had now s a e p =
      let both = and_parts (list_all (is_under first.0) (items first.1)) (are_own items lists) a in
      let tail = sorted_tail key_cmp first.0 (keys_of lists) s in
      by (key_cmp key first.0) refl both.0 e (λ f. out_by_key key phrase lists had now tail both.1 f p) both.1
      ∙ sym (filter-append (λ row. not (is_pair_of key phrase row)) (items first.1) (all_rows items lists))
    where
      by : (o : Ordering) → key_cmp key first.0 ≡ o → list_all (is_under first.0) (items first.1) ≡ true
          → cond (is_eq o) (Some first.1) (lookup (is_at (key_cmp key)) lists) ≡ Some had
          → (lookup (is_at (key_cmp key)) lists ≡ Some had → all_rows items (set_value (is_at (key_cmp key)) lists now) ≡ without key phrase (all_rows items lists))
          → are_own items lists ≡ true
          → all_rows items (cond (is_eq o) ((first.0, now) ∷ lists) (first ∷ set_value (is_at (key_cmp key)) lists now)) ≡ without key phrase (items first.1) ++ without key phrase (all_rows items lists)
      by Less o own e later a = ap₂ (λ (x y : List Row). x ++ y) (sym (without_other key phrase (items first.1) (under_other key first.0 (items first.1) (key_differs key first.0 Less o refl) own))) (later e)
      by Greater o own e later a = ap₂ (λ (x y : List Row). x ++ y) (sym (without_other key phrase (items first.1) (under_other key first.0 (items first.1) (key_differs key first.0 Greater o refl) own))) (later e)
      by Equal o own e later a =
          ap₂ (λ (x y : List Row). x ++ y) (p ∙ ap (λ l. without key phrase (items l)) (sym (same_Some first.1 had e)))
          (sym (without_other key phrase (all_rows items lists) (under_above key (all_rows items lists) (above_rest key first lists (key_ties key first.0 o) s a))))

  -- a key whose list is empty may go
  pub bare_by_key : (key : List ℕ) (lists : List Entry) (list : L) → lookup (is_at (key_cmp key)) lists ≡ Some list → items list ≡ [] → all_rows items (remove_entry (is_at (key_cmp key)) lists) ≡ all_rows items lists
  bare_by_key key [] list e n = refl
  bare_by_key key (first ∷ lists) list e n = by (is_at (key_cmp key) first.0) e (λ f. bare_by_key key lists list f n)
    where
      by : (b : Bool) → cond b (Some first.1) (lookup (is_at (key_cmp key)) lists) ≡ Some list
          → (lookup (is_at (key_cmp key)) lists ≡ Some list → all_rows items (remove_entry (is_at (key_cmp key)) lists) ≡ all_rows items lists)
          → all_rows items (cond b lists (first ∷ remove_entry (is_at (key_cmp key)) lists)) ≡ items first.1 ++ all_rows items lists
      by true e later = ap (λ l. l ++ all_rows items lists) (sym n ∙ ap items (sym (same_Some first.1 list e)))
      by false e later = ap (λ l. items first.1 ++ l) (later e)

  -- the lists stay their keys' own
  pub own_set : (key : List ℕ) (lists : List Entry) (now : L) → are_own items lists ≡ true → list_all (is_under key) (items now) ≡ true → are_own items (set_value (is_at (key_cmp key)) lists now) ≡ true
  own_set key [] now a n = refl
  own_set key (first ∷ lists) now a n =
      let both = and_parts (list_all (is_under first.0) (items first.1)) (are_own items lists) a in
      by (key_cmp key first.0) refl both.0 both.1 (own_set key lists now both.1 n)
    where
      by : (o : Ordering) → key_cmp key first.0 ≡ o → list_all (is_under first.0) (items first.1) ≡ true → are_own items lists ≡ true → are_own items (set_value (is_at (key_cmp key)) lists now) ≡ true
          → are_own items (cond (is_eq o) ((first.0, now) ∷ lists) (first ∷ set_value (is_at (key_cmp key)) lists now)) ≡ true
      by Less o own a later = and_from _ _ own later
      by Greater o own a later = and_from _ _ own later
      by Equal o own a later = and_from _ _ (subst (λ k. list_all (is_under k) (items now) ≡ true) (key_ties key first.0 o) n) a

  pub own_insert : (key : List ℕ) (lists : List Entry) (new : L) → are_own items lists ≡ true → list_all (is_under key) (items new) ≡ true → are_own items (insert_entry key_cmp lists key new) ≡ true
  own_insert key [] new a n = and_from _ _ n refl
  own_insert key (first ∷ lists) new a n =
      let both = and_parts (list_all (is_under first.0) (items first.1)) (are_own items lists) a in
      by (key_cmp key first.0) refl both.0 both.1 (own_insert key lists new both.1 n)
    where
      by : (o : Ordering) → key_cmp key first.0 ≡ o → list_all (is_under first.0) (items first.1) ≡ true → are_own items lists ≡ true → are_own items (insert_entry key_cmp lists key new) ≡ true
          → are_own items (match_ordering o ((key, new) ∷ (first ∷ lists)) ((first.0, new) ∷ lists) (first ∷ insert_entry key_cmp lists key new)) ≡ true
      by Less o own a later = and_from _ _ n (and_from _ _ own a)
      by Greater o own a later = and_from _ _ own later
      by Equal o own a later = and_from _ _ (subst (λ k. list_all (is_under k) (items new) ≡ true) (key_ties key first.0 o) n) a

  pub own_remove : (key : List ℕ) (lists : List Entry) → are_own items lists ≡ true → are_own items (remove_entry (is_at (key_cmp key)) lists) ≡ true
  own_remove key [] a = refl
  own_remove key (first ∷ lists) a =
      let both = and_parts (list_all (is_under first.0) (items first.1)) (are_own items lists) a in
      by (is_at (key_cmp key) first.0) both.0 both.1 (own_remove key lists both.1)
    where
      by : (b : Bool) → list_all (is_under first.0) (items first.1) ≡ true → are_own items lists ≡ true → are_own items (remove_entry (is_at (key_cmp key)) lists) ≡ true
          → are_own items (cond b lists (first ∷ remove_entry (is_at (key_cmp key)) lists)) ≡ true
      by true own a later = a
      by false own a later = and_from _ _ own later

  -- a list with the same rows in a list's place
  same_by_key : (key : List ℕ) (lists : List Entry) (had now : L) → lookup (is_at (key_cmp key)) lists ≡ Some had → items now ≡ items had → all_rows items (set_value (is_at (key_cmp key)) lists now) ≡ all_rows items lists
  same_by_key key [] had now e p = refl
  same_by_key key (first ∷ lists) had now e p = by (is_at (key_cmp key) first.0) e (λ f. same_by_key key lists had now f p)
    where
      by : (b : Bool) → cond b (Some first.1) (lookup (is_at (key_cmp key)) lists) ≡ Some had
          → (lookup (is_at (key_cmp key)) lists ≡ Some had → all_rows items (set_value (is_at (key_cmp key)) lists now) ≡ all_rows items lists)
          → all_rows items (cond b ((first.0, now) ∷ lists) (first ∷ set_value (is_at (key_cmp key)) lists now)) ≡ items first.1 ++ all_rows items lists
      by true e later = ap (λ l. l ++ all_rows items lists) (p ∙ ap items (sym (same_Some first.1 had e)))
      by false e later = ap (λ l. items first.1 ++ l) (later e)

  -- what is known of lists: they make a map, and are their keys' own
  pub record AreLists (lists : List Entry) : Type 0 where
    pub map : is_map (all_rows items lists) ≡ true
    pub own : are_own items lists ≡ true

  -- the rows of a key, by what its look-up answers
  pub listed : (key : List ℕ) (lists : List Entry) (all : List Row) (found : Option L) → found ≡ lookup (is_at (key_cmp key)) lists → Ascends lists → are_own items lists ≡ true → all_rows items lists ≡ all
      → option_map_or items found [] ≡ rows_under all key
  listed key lists all found f s a same = ap (λ o. option_map_or items o []) f ∙ sym (rows_by_key key lists s a) ∙ ap (λ l. rows_under l key) same

  -- a list that changed
  module _ (key : List ℕ) (lists after : List Entry) (had now : L) (l : AreLists lists) (s : Ascends lists)
      (found : Some had ≡ lookup (is_at (key_cmp key)) lists) (changed : after ≡ set_value (is_at (key_cmp key)) lists now) where
    pub had_is_map : is_map (items had) ≡ true
    had_is_map = ap (λ o. is_map (option_map_or items o [])) found ∙ list_is_map key lists s l.own l.map

    pub had_row : (phrase : List ℕ) → row_of (items had) key phrase ≡ row_of (all_rows items lists) key phrase
    had_row phrase = ap (λ o. row_of (option_map_or items o []) key phrase) found ∙ row_by_key key phrase lists s l.own

    pub all_put_row : (row : Row) → row.key ≡ key → items now ≡ put_row row (items had) → all_rows items after ≡ put_row row (all_rows items lists)
    all_put_row row same p =
        ap (all_rows items) (changed ∙ ap (λ k. set_value (is_at (key_cmp k)) lists now) (sym same))
        ∙ put_by_key row lists had now s l.own (ap (λ k. lookup (is_at (key_cmp k)) lists) same ∙ sym found) p

    pub lists_put_row : (row : Row) → row.key ≡ key → items now ≡ put_row row (items had) → AreLists after
    lists_put_row row same p = record {
      map = ap is_map (all_put_row row same p) ∙ put_keeps row (all_rows items lists) l.map;
      own = ap (are_own items) changed ∙ own_set key lists now l.own (ap (list_all (is_under key)) p ∙ own_put key row (items had) ((bytes_eq-Decides row.key key).1 same) (list_is_own key lists had l.own (sym found)));
    }

    pub all_same : items now ≡ items had → all_rows items after ≡ all_rows items lists
    all_same p = ap (all_rows items) changed ∙ same_by_key key lists had now (sym found) p

    pub lists_same : items now ≡ items had → AreLists after
    lists_same p = record {
      map = ap is_map (all_same p) ∙ l.map;
      own = ap (are_own items) changed ∙ own_set key lists now l.own (ap (list_all (is_under key)) p ∙ list_is_own key lists had l.own (sym found));
    }

    pub all_out : (phrase : List ℕ) → items now ≡ without key phrase (items had) → all_rows items after ≡ without key phrase (all_rows items lists)
    all_out phrase p = ap (all_rows items) changed ∙ out_by_key key phrase lists had now s l.own (sym found) p

    pub lists_out : (phrase : List ℕ) → items now ≡ without key phrase (items had) → AreLists after
    lists_out phrase p = record {
      map = ap is_map (all_out phrase p) ∙ filter_keeps (λ row. not (is_pair_of key phrase row)) (all_rows items lists) l.map;
      own = ap (are_own items) changed ∙ own_set key lists now l.own (ap (list_all (is_under key)) p ∙ own_kept key (λ row. not (is_pair_of key phrase row)) (items had) (list_is_own key lists had l.own (sym found)));
    }

  -- a list that was added
  module _ (row : Row) (key : List ℕ) (lists after : List Entry) (new : L) (l : AreLists lists) (s : Ascends lists) (none : rows_under (all_rows items lists) key ≡ [])
      (same : row.key ≡ key) (one : items new ≡ row ∷ []) (added : after ≡ insert_entry key_cmp lists key new) where
    pub all_added : all_rows items after ≡ put_row row (all_rows items lists)
    all_added =
        ap (all_rows items) (added ∙ ap (λ k. insert_entry key_cmp lists k new) (sym same))
        ∙ insert_by_key row lists new s l.own (sym (rows_by_key row.key lists s l.own) ∙ ap (rows_under (all_rows items lists)) same ∙ none) one

    pub lists_added : AreLists after
    lists_added = record {
      map = ap is_map all_added ∙ put_keeps row (all_rows items lists) l.map;
      own = ap (are_own items) added ∙ own_insert key lists new l.own (ap (list_all (is_under key)) one ∙ and_from _ _ ((bytes_eq-Decides row.key key).1 same) refl);
    }
