-- Combined rows: their order, which rows they are, and that the user's hide the system's.
use Rattle.std.proofs.Common.{◌≡◌, ◌≢◌, ℕ, ◌<◌, Bool, true, false, not, cond, ◌&&◌, ◌||◌, List, [], ◌∷◌, ◌++◌, length, get_or, filter, All, AllPairs, Contains, IsSorted, bytes_eq, ◌⊎◌, inl, inr, ⊎_elim, sym, refl, ap, ◌∙◌, true≢false, arith}
use Rattle.std.specs.List.{list_any}
use Rattle.std.proofs.lemmas.Bool.{and_from, and_parts, cases_order, not-true}
use Rattle.std.proofs.lemmas.List.{get_or_default}
use Rattle.std.proofs.lemmas.List.Elements.{Contains-append_cases, Contains-append_left, Contains-append_right}
use Rattle.std.proofs.lemmas.List.Folds.{Any-from_list_any, list_any-append, list_any-from_Any}
use Rattle.std.proofs.lemmas.List.Kept.{AllPairs-cons, AllPairs-filter}
use Rattle.std.proofs.lemmas.Slice.Eq.{bytes_eq-Decides}
use Rattle.chew_spec_syllable.specs.Row.{Row, is_pair_of, no_pair_twice}
use Rattle.chew_spec_dictionary.specs.HiddenPairs.{is_hidden, shown_rows}
use Rattle.chew_spec_dictionary.specs.Look.{shown_cmp}
use Rattle.chew_spec_dictionary.specs.System.{is_under, rows_under}
use Rattle.chew_spec_dictionary.proofs.Hiding.{single_shown}
use Rattle.chew_spec_dictionary.proofs.Order.{order_sorted}
use Rattle.chew_spec_dictionary.proofs.Rows.{shown_total, under_key}
use Rattle.chew_spec_phrasing.specs.CombinedRows.{combined, has_phrase}
use Rattle.chew_spec_phrasing.proofs.InOrder.{AllPairs-append, AllPairs-in_order, AllPairs-nil, Contains-from_in_order, Contains-in_order, list_any-in_order}
use Rattle.chew_spec_phrasing.proofs.Membership.{All-from_Contains, Contains-filter, Contains-from_filter, Contains-head, Contains-tail}

-- texts that are one pass the test, and no others
pub bytes_eq_from_same : (text other : List ℕ) → text ≡ other → bytes_eq text other ≡ true
bytes_eq_from_same text other = (bytes_eq-Decides text other).1

pub same_from_bytes_eq : (text other : List ℕ) → bytes_eq text other ≡ true → text ≡ other
same_from_bytes_eq text other = (bytes_eq-Decides text other).0

-- the rows under a key are those that have it
pub Contains-rows_under : (rows : List Row) (key : List ℕ) (row : Row) → Contains rows row → row.key ≡ key → Contains (rows_under rows key) row
Contains-rows_under rows key row h e = Contains-filter (is_under key) rows row h (bytes_eq_from_same row.key key e)

pub Contains-from_rows_under : (rows : List Row) (key : List ℕ) (row : Row) → Contains (rows_under rows key) row → Contains rows row × (row.key ≡ key)
Contains-from_rows_under = under_key

-- a row's phrase is had where the row is there
pub has_phrase-from_Contains : (rows : List Row) (row : Row) (phrase : List ℕ) → Contains rows row → row.phrase ≡ phrase → has_phrase rows phrase ≡ true
has_phrase-from_Contains rows row phrase h e =
    list_any-from_Any (λ other. bytes_eq other.phrase phrase) rows (h.0, row, h.1, h.2, bytes_eq_from_same row.phrase phrase e)

not_true_from_false : (b : Bool) → b ≡ false → not b ≡ true
not_true_from_false b e = ap not e

-- what a combined row is: one of the user's of the key, or one of the system's whose phrase the user has not for it
pub Contains-combined-user : (system user : List Row) (key : List ℕ) (row : Row) → Contains user row → row.key ≡ key → is_hidden row ≡ false → Contains (combined system user key) row
Contains-combined-user system user key row h e f =
    let mine = rows_under user key in
    let theirs = filter (λ other. not (has_phrase mine other.phrase)) (rows_under system key) in
    Contains-in_order shown_cmp (shown_rows mine ++ theirs) row
    (Contains-append_left (shown_rows mine) theirs row
    (Contains-filter (λ other. not (is_hidden other)) mine row (Contains-rows_under user key row h e) (not_true_from_false (is_hidden row) f)))

pub Contains-combined-system : (system user : List Row) (key : List ℕ) (row : Row) → Contains system row → row.key ≡ key → has_phrase (rows_under user key) row.phrase ≡ false → Contains (combined system user key) row
Contains-combined-system system user key row h e f =
    let mine = rows_under user key in
    let theirs = filter (λ other. not (has_phrase mine other.phrase)) (rows_under system key) in
    Contains-in_order shown_cmp (shown_rows mine ++ theirs) row
    (Contains-append_right (shown_rows mine) theirs row
    (Contains-filter (λ other. not (has_phrase mine other.phrase)) (rows_under system key) row
    (Contains-rows_under system key row h e) (not_true_from_false (has_phrase mine row.phrase) f)))

-- and no other is one
pub Contains-combined-cases : (system user : List Row) (key : List ℕ) (row : Row) → Contains (combined system user key) row → (row.key ≡ key) × ((Contains user row × (is_hidden row ≡ false)) ⊎ (Contains system row × (has_phrase (rows_under user key) row.phrase ≡ false)))
Contains-combined-cases system user key row h =
    let mine = rows_under user key in
    let theirs = filter (λ other. not (has_phrase mine other.phrase)) (rows_under system key) in
    ⊎_elim
    (λ own.
    let shown = Contains-from_filter (λ r. not (is_hidden r)) mine row own in
    let kept = Contains-from_rows_under user key row shown.0 in
    (kept.1, inl (kept.0, not-true (is_hidden row) shown.1)))
    (λ other.
    let free = Contains-from_filter (λ r. not (has_phrase mine r.phrase)) (rows_under system key) row other in
    let kept = Contains-from_rows_under system key row free.0 in
    (kept.1, inr (kept.0, not-true (has_phrase mine row.phrase) free.1)))
    (Contains-append_cases (shown_rows mine) theirs row (Contains-from_in_order shown_cmp (shown_rows mine ++ theirs) row h))

-- they are in order
pub IsSorted-combined : (system user : List Row) (key : List ℕ) → IsSorted shown_cmp (combined system user key)
IsSorted-combined system user key =
    order_sorted shown_cmp shown_total (shown_rows (rows_under user key) ++ filter (λ row. not (has_phrase (rows_under user key) row.phrase)) (rows_under system key))

-- two rows of different phrases
abbrev pub IsOtherPhrase : Row → Row → Type 0
IsOtherPhrase row other = row.phrase ≢ other.phrase

no_pair : (row other : Row) (rows : List Row) → list_any (is_pair_of row.key row.phrase) rows ≡ false → Contains rows other → other.key ≡ row.key → row.phrase ≡ other.phrase → ⊥
no_pair row other rows none h e f =
    true≢false (sym (list_any-from_Any (is_pair_of row.key row.phrase) rows (
      h.0,
      other,
      h.1,
      h.2,
      and_from (bytes_eq other.key row.key) (bytes_eq other.phrase row.phrase) (bytes_eq_from_same other.key row.key e) (bytes_eq_from_same other.phrase row.phrase (sym f)),
    )) ∙ none)

once_step : (row : Row) (rows : List Row) (key : List ℕ) (b : Bool) → is_under key row ≡ b → list_any (is_pair_of row.key row.phrase) rows ≡ false → AllPairs IsOtherPhrase (rows_under rows key) → AllPairs IsOtherPhrase (cond b (row ∷ rows_under rows key) (rows_under rows key))
once_step row rows key true e none rest =
    AllPairs-cons IsOtherPhrase row (rows_under rows key)
    (All-from_Contains (IsOtherPhrase row) (rows_under rows key) (λ other h.
    let kept = Contains-from_rows_under rows key other h in
    no_pair row other rows none kept.0 (kept.1 ∙ sym (same_from_bytes_eq row.key key e))))
    rest
once_step row rows key false e none rest = rest

-- where no pair stands twice, no phrase stands twice under a key
pub once-rows_under : (rows : List Row) (key : List ℕ) → no_pair_twice rows ≡ true → AllPairs IsOtherPhrase (rows_under rows key)
once-rows_under [] key e = AllPairs-nil IsOtherPhrase
once-rows_under (row ∷ rows) key e =
    let parts = and_parts (not (list_any (is_pair_of row.key row.phrase) rows)) (no_pair_twice rows) e in
    once_step row rows key (is_under key row) refl (not-true (list_any (is_pair_of row.key row.phrase) rows) parts.0) (once-rows_under rows key parts.1)

-- and none among the combined rows
pub once-combined : (system user : List Row) (key : List ℕ) → no_pair_twice system ≡ true → no_pair_twice user ≡ true → AllPairs IsOtherPhrase (combined system user key)
once-combined system user key e f =
    let mine = rows_under user key in
    let free = λ (row : Row). not (has_phrase mine row.phrase) in
    let theirs = filter free (rows_under system key) in
    AllPairs-in_order shown_cmp IsOtherPhrase (λ row other apart same. apart (sym same)) (shown_rows mine ++ theirs)
    (AllPairs-append IsOtherPhrase (shown_rows mine) theirs (AllPairs-filter IsOtherPhrase (λ row. not (is_hidden row)) mine (once-rows_under user key f))
    (AllPairs-filter IsOtherPhrase free (rows_under system key) (once-rows_under system key e))
    (All-from_Contains (λ row. All (IsOtherPhrase row) theirs) (shown_rows mine) (λ row h.
    All-from_Contains (IsOtherPhrase row) theirs (λ other i same.
    let kept = Contains-from_filter free (rows_under system key) other i in
    true≢false (sym (has_phrase-from_Contains mine row other.phrase (Contains-from_filter (λ r. not (is_hidden r)) mine row h).0 same) ∙ not-true (has_phrase mine other.phrase) kept.1)))))

same_at : (rows : List Row) (row other : Row) → AllPairs IsOtherPhrase rows → (h : Contains rows row) (i : Contains rows other) → row.phrase ≡ other.phrase → (h.0 ≡ i.0) ⊎ ((h.0 < i.0) ⊎ (i.0 < h.0)) → row ≡ other
same_at rows row other apart h i e (inl same) =
    sym h.2 ∙ (get_or_default rows h.0 row other h.1 ∙ (ap (λ k. get_or rows k other) same ∙ i.2))
same_at rows row other apart h i e (inr (inl before)) =
    absurd (apart h.0 i.0 row before i.1 (ap (λ (r : Row). r.phrase) h.2 ∙ (e ∙ sym (ap (λ (r : Row). r.phrase) (get_or_default rows i.0 row other i.1 ∙ i.2)))))
same_at rows row other apart h i e (inr (inr after)) =
    absurd (apart i.0 h.0 row after h.1 (ap (λ (r : Row). r.phrase) (get_or_default rows i.0 row other i.1 ∙ i.2) ∙ (sym e ∙ sym (ap (λ (r : Row). r.phrase) h.2))))

-- two rows of one phrase are one
pub same_from_phrase : (rows : List Row) (row other : Row) → AllPairs IsOtherPhrase rows → Contains rows row → Contains rows other → row.phrase ≡ other.phrase → row ≡ other
same_from_phrase rows row other apart h i e = same_at rows row other apart h i e (cases_order h.0 i.0)

-- a user's row hides the system's of its phrase
pub hidden-combined : (system user : List Row) (key : List ℕ) (mine row : Row) → no_pair_twice user ≡ true → Contains user mine → mine.key ≡ key → Contains (combined system user key) row → row.phrase ≡ mine.phrase → row ≡ mine
hidden-combined system user key mine row once h e i f =
    let cases = Contains-combined-cases system user key row i in
    ⊎_elim
    (λ own. same_from_phrase (rows_under user key) row mine (once-rows_under user key once) (Contains-rows_under user key row own.0 cases.0) (Contains-rows_under user key mine h e) f)
    (λ other. absurd (true≢false (sym (has_phrase-from_Contains (rows_under user key) mine row.phrase (Contains-rows_under user key mine h e) (sym f)) ∙ other.1)))
    cases.1

free_phrase : (mine : List Row) (phrase : List ℕ) (row : Row) → bytes_eq row.phrase phrase ≡ true → not (has_phrase mine row.phrase) ≡ not (has_phrase mine phrase)
free_phrase mine phrase row e = ap (λ p. not (has_phrase mine p)) (same_from_bytes_eq row.phrase phrase e)

free_step : (free : Bool) (row : Row) (rest rows : List Row) (phrase : List ℕ) (b c : Bool) → bytes_eq row.phrase phrase ≡ b → (b ≡ true → c ≡ free) → has_phrase rest phrase ≡ (free && has_phrase rows phrase)
    → has_phrase (cond c (row ∷ rest) rest) phrase ≡ (free && (b || has_phrase rows phrase))
free_step true row rest rows phrase true true e same h = ap (λ b. b || has_phrase rest phrase) e
free_step true row rest rows phrase true false e same h = absurd (true≢false (sym (same refl)))
free_step false row rest rows phrase true true e same h = absurd (true≢false (same refl))
free_step false row rest rows phrase true false e same h = h
free_step free row rest rows phrase false true e same h = ap (λ b. b || has_phrase rest phrase) e ∙ h
free_step free row rest rows phrase false false e same h = h

-- a phrase is had by the rows that are free of others where these have it not
has_phrase-free : (mine : List Row) (phrase : List ℕ) (rows : List Row) → has_phrase (filter (λ r. not (has_phrase mine r.phrase)) rows) phrase ≡ (not (has_phrase mine phrase) && has_phrase rows phrase)
has_phrase-free mine phrase [] = none (not (has_phrase mine phrase))
  where
    none : (b : Bool) → false ≡ (b && false)
    none true = refl
    none false = refl
has_phrase-free mine phrase (row ∷ rows) =
    free_step (not (has_phrase mine phrase)) row (filter (λ r. not (has_phrase mine r.phrase)) rows) rows phrase (bytes_eq row.phrase phrase) (not (has_phrase mine row.phrase)) refl
    (free_phrase mine phrase row) (has_phrase-free mine phrase rows)

-- the combined rows have the phrases of the user's shown rows under the key, and of the system's that the user has not
pub has_phrase-combined : (system user : List Row) (key phrase : List ℕ) → has_phrase (combined system user key) phrase ≡ (has_phrase (shown_rows (rows_under user key)) phrase || (not (has_phrase (rows_under user key) phrase) && has_phrase (rows_under system key) phrase))
has_phrase-combined system user key phrase =
    let mine = rows_under user key in
    let theirs = filter (λ row. not (has_phrase mine row.phrase)) (rows_under system key) in
    list_any-in_order shown_cmp (λ row. bytes_eq row.phrase phrase) (shown_rows mine ++ theirs)
    ∙ (list_any-append (λ (row : Row). bytes_eq row.phrase phrase) (shown_rows mine) theirs
    ∙ ap (λ b. has_phrase (shown_rows mine) phrase || b) (has_phrase-free mine phrase (rows_under system key)))

false_from : (b : Bool) → (b ≡ true → ⊥) → b ≡ false
false_from true h = absurd (h refl)
false_from false h = refl

-- a hidden row's phrase is shown nowhere
pub nowhere-combined : (system user : List Row) (key : List ℕ) (mine : Row) → no_pair_twice user ≡ true → Contains user mine → mine.key ≡ key → is_hidden mine ≡ true → has_phrase (combined system user key) mine.phrase ≡ false
nowhere-combined system user key mine once h e hidden =
    let there = Contains-rows_under user key mine h e in
    has_phrase-combined system user key mine.phrase
    ∙ (ap (λ b. has_phrase (shown_rows (rows_under user key)) mine.phrase || (not b && has_phrase (rows_under system key) mine.phrase)) (has_phrase-from_Contains (rows_under user key) mine mine.phrase there refl)
    ∙ ap (λ b. b || false) (false_from (has_phrase (shown_rows (rows_under user key)) mine.phrase) (λ had.
    let any = Any-from_list_any (λ (row : Row). bytes_eq row.phrase mine.phrase) (shown_rows (rows_under user key)) had in
    let shown = Contains-from_filter (λ r. not (is_hidden r)) (rows_under user key) any.1 (any.0, any.2, any.3) in
    let same = same_from_phrase (rows_under user key) any.1 mine (once-rows_under user key once) shown.0 there (same_from_bytes_eq any.1.phrase mine.phrase any.4) in
    true≢false (sym hidden ∙ (ap is_hidden (sym same) ∙ not-true (is_hidden any.1) shown.1)))))

-- of a single syllable all rows are shown
pub all_shown : (rows : List Row) (key : List ℕ) → length key < 2 → shown_rows (rows_under rows key) ≡ rows_under rows key
all_shown rows key l = all_pass (rows_under rows key) (λ row i. ap (λ k. length k) (Contains-from_rows_under rows key row i).1)
  where
    kept : (row : Row) (rest more : List Row) (b : Bool) → b ≡ false → rest ≡ more → cond (not b) (row ∷ rest) rest ≡ row ∷ more
    kept row rest more true e f = absurd (true≢false e)
    kept row rest more false e f = ap (λ rows. row ∷ rows) f

    all_pass : (list : List Row) → ((row : Row) → Contains list row → length row.key ≡ length key) → shown_rows list ≡ list
    all_pass [] h = refl
    all_pass (row ∷ list) h =
        kept row (shown_rows list) list (is_hidden row) (single_shown row (let e = h row (Contains-head row list) in omega arith))
        (all_pass list (λ other i. h other (Contains-tail row list other i)))
