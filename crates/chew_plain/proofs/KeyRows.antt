-- The rows of a key, among those of a map.
use Rattle.std.proofs.Common.{◌≡◌, ℕ, zero, suc, ◌-◌, ◌&&◌, ◌||◌, ◌==◌, Option, Some, ◌+◌, ◌≤◌, ◌<◌, ◌∙◌, Bool, true, false, not, List, [], ◌∷◌, length, take, drop, get_or, refl, ap, ap₂, leb, sym, cond, subst, ⊎_elim, Ordering, Less, Equal, Greater, is_lt, nat_cmp, true≢false, arith}
use Rattle.std.specs.Cmp.{IsStrictWeakOrder}
use Rattle.std.specs.List.{filter, AllWithin, find, list_any, slice_get}
use Rattle.std.specs.List.Sorted.{IsPartitionedBy, IsPartitionPoint}
use Rattle.std.specs.Str.{bytes_eq}
use Rattle.std.specs.Cmp.Lexicographic.{slice_cmp}
use Rattle.std.specs.Ordering.{ordering_then, ordering_reverse}
use Rattle.std.proofs.lemmas.Bool.{cond-true, cond-false, cases_Bool, false_from_ne_true, and_parts}
use Rattle.std.proofs.lemmas.Cmp.{tied_itself}
use Rattle.std.proofs.lemmas.Slice.Eq.{bytes_eq-Decides}
use Rattle.std.proofs.lemmas.Map.Lookups.{exact_bytes}
use Rattle.std.proofs.lemmas.List.Sorted.{ranks_by}
use Rattle.std.proofs.lemmas.Option.{slice_get_read}
use Rattle.std.proofs.Math.Dec.{eqb-suc-zero}
use Rattle.std.proofs.lemmas.List.{get_or-drop, length-drop, take_rest}
use Rattle.chew_spec_syllable.specs.Row.{Row, image_cmp, is_pair, is_row, greatest_freq}
use Rattle.chew_spec_dictionary.specs.Dictionary.{is_map}
use Rattle.chew_spec_dictionary.specs.System.{is_under, rows_under, row_of}
use Rattle.chew_spec_dictionary.proofs.ImageOrder.{image_total}
use Rattle.chew_spec_dictionary.proofs.Once.{map_in_order}
use Rattle.chew_spec_dictionary.proofs.Sorting.{NoneBelow, Rises, less, rises_in_order}
use Rattle.chew_plain.specs.Order.{key_cmp, key_total}
use Rattle.chew_plain.proofs.Orders.{pair_cmp_parts}

-- the rows of a map rise
rows_rise : (rows : List Row) → is_map rows ≡ true → Rises (less image_cmp) rows
rows_rise rows m = subst (Rises (less image_cmp)) (map_in_order rows m) (rises_in_order image_cmp (ranks_by image_total (λ (row : Row). row)) rows)

-- the key of a row is less than that of another
abbrev key_less : List ℕ → List ℕ → Bool
key_less key other = is_lt (key_cmp key other)

-- a row with a lesser key is less
keys_first : (row other : Row) → is_lt (image_cmp row other) ≡ false → key_less row.key other.key ≡ false
keys_first row other e = by (key_cmp row.key other.key) (sym (ap is_lt (pair_cmp_parts row.key row.phrase other.key other.phrase)) ∙ e)
  where
    by : (o : Ordering) → is_lt (ordering_then o (slice_cmp nat_cmp row.phrase other.phrase)) ≡ false → is_lt o ≡ false
    by Less h = h
    by Equal h = refl
    by Greater h = refl

-- keys of which neither is less are equal
pub keys_equal : (key other : List ℕ) → key_less key other ≡ false → key_less other key ≡ false → key ≡ other
keys_equal key other a b = exact_bytes key other (by_then (nat_cmp (length key) (length other)) (tied (key_cmp key other) a (sym (ap is_lt (key_total.antisymm other key)) ∙ b)))
  where
    tied : (o : Ordering) → is_lt o ≡ false → is_lt (ordering_reverse o) ≡ false → o ≡ Equal
    tied Less h k = absurd (true≢false h)
    tied Equal h k = refl
    tied Greater h k = absurd (true≢false k)

    by_then : (o : Ordering) → ordering_then o (slice_cmp nat_cmp key other) ≡ Equal → slice_cmp nat_cmp key other ≡ Equal
    by_then Less h = absurd (true≢false (ap is_lt h))
    by_then Equal h = h
    by_then Greater h = absurd (true≢false (sym (ap not_greater h)))
      where
        not_greater : Ordering → Bool
        not_greater Greater = false
        not_greater _ = true

-- a lesser key is another, and so is a greater one
key_apart : (key other : List ℕ) → key_less key other ≡ true → bytes_eq key other ≡ false
key_apart key other l = false_from_ne_true _ (λ e. true≢false (sym l ∙ ap (key_less key) (sym ((bytes_eq-Decides key other).0 e)) ∙ ap is_lt (tied_itself key_total key)))

pub key_apart_back : (key other : List ℕ) → key_less other key ≡ true → bytes_eq key other ≡ false
key_apart_back key other l = false_from_ne_true _ (λ e. true≢false (sym l ∙ ap (key_less other) ((bytes_eq-Decides key other).0 e) ∙ ap is_lt (tied_itself key_total other)))

-- no row behind one that rises is below it
none_below_at : {X : Type 0} (lt : X → X → Bool) (x : X) (xs : List X) → NoneBelow lt x xs → (k : ℕ) (d : X) → k < length xs → lt (get_or xs k d) x ≡ false
none_below_at lt x [] h k d l = absurd (omega arith)
none_below_at lt x (y ∷ ys) h zero d l = h.0
none_below_at lt x (y ∷ ys) h (suc k) d l = none_below_at lt x ys h.1 k d (omega arith)

-- rows in order are cut in two by a test that a lesser row passes where a greater one does
pub cut_in_two : {X : Type 0} (lt : X → X → Bool) (p : X → Bool) → ((x y : X) → lt y x ≡ false → p y ≡ true → p x ≡ true) → (xs : List X) → Rises lt xs → IsPartitionedBy p xs
cut_in_two lt p down [] h i j d le l e = absurd (omega arith)
cut_in_two lt p down (x ∷ xs) h zero zero d le l e = e
cut_in_two lt p down (x ∷ xs) h zero (suc j) d le l e = down x (get_or xs j d) (none_below_at lt x xs h.0 j d (omega arith)) e
cut_in_two lt p down (x ∷ xs) h (suc i) zero d le l e = absurd (omega arith)
cut_in_two lt p down (x ∷ xs) h (suc i) (suc j) d le l e = cut_in_two lt p down xs h.1 i j d (omega arith) (omega arith) e

-- the keys of rows in order rise
weak : IsStrictWeakOrder key_less
weak = ranks_by key_total (λ (key : List ℕ). key)

below_key : (key : List ℕ) (x y : Row) → is_lt (image_cmp y x) ≡ false → key_less y.key key ≡ true → key_less x.key key ≡ true
below_key key x y e l = ⊎_elim
    (λ (t : key_less x.key key ≡ true). t)
    (λ (f : key_less x.key key ≡ false). absurd (true≢false (sym l ∙ weak.chain y.key x.key key (keys_first y x e) f)))
    (cases_Bool (key_less x.key key))

upto_key : (key : List ℕ) (x y : Row) → is_lt (image_cmp y x) ≡ false → not (key_less key y.key) ≡ true → not (key_less key x.key) ≡ true
upto_key key x y e l = ap not (weak.chain key y.key x.key (not_true (key_less key y.key) l) (keys_first y x e))
  where
    not_true : (b : Bool) → not b ≡ true → b ≡ false
    not_true true h = sym h
    not_true false h = refl

-- the rows below a key come first
pub below_key_first : (key : List ℕ) (rows : List Row) → is_map rows ≡ true → IsPartitionedBy (λ row. is_lt (key_cmp row.key key)) rows
below_key_first key rows m = cut_in_two (less image_cmp) (λ row. is_lt (key_cmp row.key key)) (below_key key) rows (rows_rise rows m)

-- what follows a front of rows that rise rises
rises_drop : {X : Type 0} (lt : X → X → Bool) (n : ℕ) (xs : List X) → Rises lt xs → Rises lt (drop n xs)
rises_drop lt zero xs h = h
rises_drop lt (suc n) [] h = tt
rises_drop lt (suc n) (x ∷ xs) h = rises_drop lt n xs h.1

-- the rows up to a key come first, behind any front
pub upto_key_first : (key : List ℕ) (rows : List Row) (n : ℕ) → is_map rows ≡ true → IsPartitionedBy (λ row. not (is_lt (key_cmp key row.key))) (drop n rows)
upto_key_first key rows n m = cut_in_two (less image_cmp) (λ row. not (is_lt (key_cmp key row.key))) (upto_key key) (drop n rows) (rises_drop (less image_cmp) n rows (rows_rise rows m))

-- a test that no row passes
filter_none : {X : Type 0} (t : X → Bool) (xs : List X) → ((k : ℕ) (d : X) → k < length xs → t (get_or xs k d) ≡ false) → filter t xs ≡ []
filter_none t [] h = refl
filter_none t (x ∷ xs) h = cond-false _ _ _ (h 0 x (omega arith)) ∙ filter_none t xs (λ k d l. h (suc k) d (omega arith))

-- a test that the first rows pass, and no others
filter_front : {X : Type 0} (t : X → Bool) (xs : List X) (n : ℕ) → AllWithin (λ x. t x ≡ true) xs 0 n → AllWithin (λ x. t x ≡ false) xs n (length xs) → filter t xs ≡ take n xs
filter_front t [] zero pass fail = refl
filter_front t [] (suc n) pass fail = refl
filter_front t (x ∷ xs) zero pass fail = filter_none t (x ∷ xs) (λ k d l. fail k d (omega arith) l)
filter_front t (x ∷ xs) (suc n) pass fail = cond-true _ _ _ (pass 0 x (omega arith) (omega arith)) ∙ ap (λ (l : List _). x ∷ l) (filter_front t xs n (λ k d a b. pass (suc k) d (omega arith) (omega arith)) (λ k d a b. fail (suc k) d (omega arith) (omega arith)))

-- a test that no row of a front passes
filter_behind : {X : Type 0} (t : X → Bool) (xs : List X) (n : ℕ) → AllWithin (λ x. t x ≡ false) xs 0 n → filter t xs ≡ filter t (drop n xs)
filter_behind t xs zero fail = refl
filter_behind t [] (suc n) fail = refl
filter_behind t (x ∷ xs) (suc n) fail = cond-false _ _ _ (fail 0 x (omega arith) (omega arith)) ∙ filter_behind t xs n (λ k d a b. fail (suc k) d (omega arith) (omega arith))

-- the rows that a search finds for a key are all its rows
pub rows_found : (key : List ℕ) (rows : List Row) (low count : ℕ)
    → low ≤ length rows
    → IsPartitionPoint (λ row. is_lt (key_cmp row.key key) ≡ true) (λ row. is_lt (key_cmp row.key key) ≡ false) rows low
    → IsPartitionPoint (λ row. not (is_lt (key_cmp key row.key)) ≡ true) (λ row. not (is_lt (key_cmp key row.key)) ≡ false) (drop low rows) count
    → count ≤ length (drop low rows)
    → take count (drop low rows) ≡ rows_under rows key
rows_found key rows low count inside front back long =
    sym (filter_behind (is_under key) rows low (λ k d a b. key_apart (get_or rows k d).key key (front.0 k d a b))
    ∙ filter_front (is_under key) (drop low rows) count
    (λ k d a b. here (get_or (drop low rows) k d) (not_true _ (back.0 k d a b)) (at_rest k d (omega (arith, long))))
    (λ k d a b. key_apart_back (get_or (drop low rows) k d).key key (not_false _ (back.1 k d a b))))
  where
    not_true : (b : Bool) → not b ≡ true → b ≡ false
    not_true true h = sym h
    not_true false h = refl

    not_false : (b : Bool) → not b ≡ false → b ≡ true
    not_false true h = refl
    not_false false h = sym h

    at_rest : (k : ℕ) (d : Row) → k < length (drop low rows) → is_lt (key_cmp (get_or (drop low rows) k d).key key) ≡ false
    at_rest k d l = ap (λ (row : Row). is_lt (key_cmp row.key key)) (get_or-drop low rows k d) ∙ front.1 (low + k) d (omega arith) (omega (arith, length-drop low rows))

    here : (row : Row) → is_lt (key_cmp key row.key) ≡ false → is_lt (key_cmp row.key key) ≡ false → is_under key row ≡ true
    here row a b = (bytes_eq-Decides row.key key).1 (keys_equal row.key key b a)

-- a row under a key has it
pub has_key : (key : List ℕ) (row : Row) → is_under key row ≡ true → row.key ≡ key
has_key key row e = (bytes_eq-Decides row.key key).0 e

-- the row of a pair is the first of its key that has its phrase
pub row_among : (key phrase : List ℕ) (rows : List Row) → find (λ (row : Row). bytes_eq row.phrase phrase) (rows_under rows key) ≡ row_of rows key phrase
row_among key phrase [] = refl
row_among key phrase (row ∷ rows) = by (bytes_eq row.key key) (row_among key phrase rows)
  where
    by : (b : Bool) → find (λ (r : Row). bytes_eq r.phrase phrase) (rows_under rows key) ≡ row_of rows key phrase
        → find (λ (r : Row). bytes_eq r.phrase phrase) (cond b (row ∷ rows_under rows key) (rows_under rows key)) ≡ cond (b && bytes_eq row.phrase phrase) (Some row) (row_of rows key phrase)
    by true e = ap (λ (o : Option Row). cond (bytes_eq row.phrase phrase) (Some row) o) e
    by false e = e

all_have_by : (key : List ℕ) (row : Row) (rows : List Row) (d : Row) → ((i : ℕ) → i < length (rows_under rows key) → (get_or (rows_under rows key) i d).key ≡ key)
    → (b : Bool) → is_under key row ≡ b → (i : ℕ) → i < length (cond b (row ∷ rows_under rows key) (rows_under rows key)) → (get_or (cond b (row ∷ rows_under rows key) (rows_under rows key)) i d).key ≡ key
all_have_by key row rows d rest true e zero l = has_key key row e
all_have_by key row rows d rest true e (suc i) l = rest i (omega arith)
all_have_by key row rows d rest false e i l = rest i l

-- each row of a key has it
pub all_have_key : (key : List ℕ) (rows : List Row) (i : ℕ) (d : Row) → i < length (rows_under rows key) → (get_or (rows_under rows key) i d).key ≡ key
all_have_key key [] i d l = absurd (omega arith)
all_have_key key (row ∷ rows) i d l = all_have_by key row rows d (λ i l. all_have_key key rows i d l) (is_under key row) refl i l

-- the same over the slice of what follows the rows below the key
pub upto_key_first_in_rest : (key : List ℕ) (rows : List Row) (low : ℕ) → is_map rows ≡ true → IsPartitionedBy (λ row. not (is_lt (key_cmp key row.key))) (take (length rows - low) (drop low rows))
upto_key_first_in_rest key rows low m = subst (IsPartitionedBy (λ row. not (is_lt (key_cmp key row.key)))) (sym (take_rest rows low)) (upto_key_first key rows low m)

pub rows_found_in_rest : (key : List ℕ) (rows : List Row) (low count : ℕ)
    → low ≤ length rows
    → IsPartitionPoint (λ row. is_lt (key_cmp row.key key) ≡ true) (λ row. is_lt (key_cmp row.key key) ≡ false) rows low
    → IsPartitionPoint (λ row. not (is_lt (key_cmp key row.key)) ≡ true) (λ row. not (is_lt (key_cmp key row.key)) ≡ false) (take (length rows - low) (drop low rows)) count
    → count ≤ length (take (length rows - low) (drop low rows))
    → take count (take (length rows - low) (drop low rows)) ≡ rows_under rows key
rows_found_in_rest key rows low count inside front back long =
    ap (take count) (take_rest rows low)
    ∙ rows_found key rows low count inside front
    (subst (λ (l : List Row). IsPartitionPoint (λ row. not (is_lt (key_cmp key row.key)) ≡ true) (λ row. not (is_lt (key_cmp key row.key)) ≡ false) l count) (take_rest rows low) back)
    (subst (λ (l : List Row). count ≤ length l) (take_rest rows low) long)

-- some row passes a test where those that pass are not none
pub any_kept : (test : Row → Bool) (rows : List Row) → not (length (filter test rows) == 0) ≡ list_any test rows
any_kept test [] = refl
any_kept test (row ∷ rows) = by (test row) (any_kept test rows)
  where
    by : (b : Bool) → not (length (filter test rows) == 0) ≡ list_any test rows → not (length (cond b (row ∷ filter test rows) (filter test rows)) == 0) ≡ b || list_any test rows
    by true e = ap not (eqb-suc-zero (length (filter test rows)))
    by false e = e

-- a row of these parts
abbrev pub row_with : (key phrase : List ℕ) (freq time : ℕ) → Row
row_with key phrase freq time = record { key = key; phrase = phrase; freq = freq; time = time }

-- a row of a key, read by its place: it has the key, so its phrase is one of the key's
module _ (key : List ℕ) (rows found : List Row) (i : ℕ) (row : Row) (is : found ≡ rows_under rows key) (inside : i < length found) (read : row ≡ get_or found i row)
    (k p text : List ℕ) (freq time : ℕ) (parts : row_with k p freq time ≡ row) (said : text ≡ p) where
  its_key : k ≡ key
  its_key =
      ap (λ (r : Row). r.key) (parts ∙ read ∙ ap (λ (l : List Row). get_or l i row) is)
      ∙ all_have_key key rows i row (subst (λ (l : List Row). i < length l) is inside)

  pub row_read : slice_get found i ≡ Some (row_with key text freq time)
  row_read = slice_get_read found (length found) i row refl inside read ∙ ap Some (sym parts ∙ ap₂ (λ (a b : List ℕ). row_with a b freq time) its_key (sym said))

  pub row_valid : is_row (row_with k p freq time) ≡ true → is_pair key text ≡ true
  row_valid e = ap₂ (λ (a b : List ℕ). is_pair a b) (sym its_key) said ∙ (and_parts (is_pair k p) (leb freq greatest_freq) e).0
