-- The columns of a layout whose keys are all different.
use Rattle.std.proofs.Common.{◌≡◌, ℕ, suc, ◌+◌, Bool, true, false, cond, not, ◌||◌, List, [], ◌∷◌, ◌++◌, length, ltb, eqb, Some, None, refl, sym, ap, ◌∙◌, arith}
use Rattle.std.specs.Option.{is_some}
use Rattle.std.specs.List.{position_or_len, list_any}
use Rattle.std.proofs.lemmas.Bool.{and_parts, or_from, or_left, or_right, false_from_ne_true, both_ways, not-true, eqb-true, cond-true, cond-false}
use Rattle.std.proofs.lemmas.Bool.Decides.{nat_tests}
use Rattle.std.proofs.lemmas.List.Folds.{list_any-append}
use Rattle.chew_spec_syllable.specs.Syllable.{Parts}
use Rattle.chew_spec_layout.specs.Step.{Kept}
use Rattle.chew_spec_layout.specs.Table.{Columns, Fed, has_key, number_of, fed}
use Rattle.chew_spec_layout.specs.Keys.{no_key_twice, all_keys}

-- there is a value where the test lets one through
some_if : (b : Bool) (n : ℕ) → is_some (cond b (Some n) None) ≡ b
some_if true n = refl
some_if false n = refl

-- the first that passes is the head, or stands behind it
first_place : (b : Bool) (n m : ℕ) → ltb (cond (not b) (1 + n) 0) (suc m) ≡ (b || ltb n m)
first_place true n m = grind (arith, nat_tests)
first_place false n m = grind (arith, nat_tests)

-- the first that passes has a place in the list exactly where some passes
below_length : (p : ℕ → Bool) (xs : List ℕ) → ltb (position_or_len p xs) (length xs) ≡ list_any p xs
below_length p [] = refl
below_length p (x ∷ xs) = first_place (p x) (position_or_len p xs) (length xs) ∙ ap (λ b. p x || b) (below_length p xs)

-- a column has a key exactly where one of its keys is it
pub has_key_any : (column : List ℕ) (key : ℕ) → has_key column key ≡ list_any (λ k. eqb k key) column
has_key_any column key = some_if _ _ ∙ below_length (λ k. eqb k key) column

-- of two lists that share no key, a key of the second is none of the first
apart : (xs ys : List ℕ) (key : ℕ) → no_key_twice (xs ++ ys) ≡ true → list_any (λ k. eqb k key) ys ≡ true → list_any (λ k. eqb k key) xs ≡ false
apart [] ys key h e = refl
apart (x ∷ xs) ys key h e =
    let parts = and_parts _ _ h in
    or_from _ _
    (false_from_ne_true _ (λ same.
    both_ways _ (not-true _ parts.0)
    (list_any-append (λ k. eqb k x) xs ys ∙ or_right _ _ (ap (λ (q : ℕ). list_any (λ k. eqb k q) ys) (eqb-true _ _ same) ∙ e))))
    (apart xs ys key parts.1 e)

-- no key twice in a list, none in its rest
rest_once : (xs ys : List ℕ) → no_key_twice (xs ++ ys) ≡ true → no_key_twice ys ≡ true
rest_once [] ys h = h
rest_once (x ∷ xs) ys h = rest_once xs ys (and_parts _ _ h).1

-- a key of a list is one of the list and more
in_front : (xs ys : List ℕ) (key : ℕ) → list_any (λ k. eqb k key) xs ≡ true → list_any (λ k. eqb k key) (xs ++ ys) ≡ true
in_front xs ys key e = list_any-append (λ k. eqb k key) xs ys ∙ or_left _ _ e

-- a key of a medial is no key of an initial
pub medial_apart : (columns : Columns) (key : ℕ) → no_key_twice (all_keys columns) ≡ true → has_key columns.medials key ≡ true → has_key columns.initials key ≡ false
medial_apart columns key once e =
    has_key_any columns.initials key ∙ apart columns.initials _ key once (in_front columns.medials _ key (sym (has_key_any columns.medials key) ∙ e))

-- a key of a final is no key of an initial, and none of a medial
pub final_apart : (columns : Columns) (key : ℕ) → no_key_twice (all_keys columns) ≡ true → has_key columns.finals key ≡ true → (has_key columns.initials key ≡ false) × (has_key columns.medials key ≡ false)
final_apart columns key once e =
    let here = in_front columns.finals columns.tones key (sym (has_key_any columns.finals key) ∙ e) in
    let later = list_any-append (λ k. eqb k key) columns.medials (columns.finals ++ columns.tones) ∙ or_right _ _ here in (
      has_key_any columns.initials key ∙ apart columns.initials _ key once later,
      has_key_any columns.medials key ∙ apart columns.medials _ key (rest_once columns.initials _ once) here,
    )

-- an initial's key sets the initial
pub at_initial : (columns : Columns) (held : Parts) (key : ℕ) → has_key columns.initials key ≡ true
    → fed columns held key ≡ record { step = Kept; held = record held { initial = number_of columns.initials key } }
unfolding fed
at_initial columns held key e = cond-true _ _ _ e

-- a medial's key sets the medial
pub at_medial : (columns : Columns) (held : Parts) (key : ℕ) → has_key columns.initials key ≡ false → has_key columns.medials key ≡ true
    → fed columns held key ≡ record { step = Kept; held = record held { medial = number_of columns.medials key } }
unfolding fed
at_medial columns held key e f = cond-false _ _ _ e ∙ cond-true _ _ _ f

-- a final's key sets the final
pub at_final : (columns : Columns) (held : Parts) (key : ℕ) → (has_key columns.initials key ≡ false) × (has_key columns.medials key ≡ false) → has_key columns.finals key ≡ true
    → fed columns held key ≡ record { step = Kept; held = record held { final = number_of columns.finals key } }
unfolding fed
at_final columns held key e f = cond-false _ _ _ e.0 ∙ (cond-false _ _ _ e.1 ∙ cond-true _ _ _ f)

-- of two initials' keys the last counts
pub last_initial : (columns : Columns) (held : Parts) (first second : ℕ) → has_key columns.initials first ≡ true → has_key columns.initials second ≡ true
    → fed columns (fed columns held first).held second ≡ fed columns held second
last_initial columns held first second e f =
    ap (λ (x : Fed). fed columns x.held second) (at_initial columns held first e)
    ∙ (at_initial columns _ second f ∙ sym (at_initial columns held second f))

-- of two medials' keys the last counts
pub last_medial : (columns : Columns) (held : Parts) (first second : ℕ) → no_key_twice (all_keys columns) ≡ true → has_key columns.medials first ≡ true → has_key columns.medials second ≡ true
    → fed columns (fed columns held first).held second ≡ fed columns held second
last_medial columns held first second once e f =
    let a = medial_apart columns first once e in
    let b = medial_apart columns second once f in
    ap (λ (x : Fed). fed columns x.held second) (at_medial columns held first a e)
    ∙ (at_medial columns _ second b f ∙ sym (at_medial columns held second b f))

-- of two finals' keys the last counts
pub last_final : (columns : Columns) (held : Parts) (first second : ℕ) → no_key_twice (all_keys columns) ≡ true → has_key columns.finals first ≡ true → has_key columns.finals second ≡ true
    → fed columns (fed columns held first).held second ≡ fed columns held second
last_final columns held first second once e f =
    let a = final_apart columns first once e in
    let b = final_apart columns second once f in
    ap (λ (x : Fed). fed columns x.held second) (at_final columns held first a e)
    ∙ (at_final columns _ second b f ∙ sym (at_final columns held second b f))
